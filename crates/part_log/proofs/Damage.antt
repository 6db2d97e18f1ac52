-- Damage of a log: bytes that stand for records have none, and others have it at one place.
use Rattle.std.proofs.Common.{◌≡◌, inl, inr, ℕ, ◌+◌, ◌≤◌, List, [], ◌∷◌, ◌++◌, length, Option, Some, None, refl, sym, ◌∙◌, ap, subst, append_assoc, length-append}
use Rattle.disk_core.specs.Content.{range}
use Rattle.log_manifest.specs.declared.manifest.LogSettings.{LogSettings}
use Rattle.log_manifest.specs.declared.manifest.Live.{Live}
use Rattle.log_manifest.specs.declared.manifest.Manifest.{Manifest}
use Rattle.log_manifest.specs.Manifests.{manifest_text}
use Rattle.msg_format.specs.declared.record.Record.{Record}
use Rattle.msg_format.specs.Records.{BeginsWith, Spells, lsn_of}
use Rattle.msg_format.proofs.Spelled.{spellings_apart}
use Rattle.part_log.specs.Records.{Written, laid, AreWritten, EndsHere, HoldsRecords, RisesFrom, next_after}
use Rattle.part_log.specs.Segments.{place_of}
use Rattle.part_log.specs.Images.{AllHold, EndsBadly, HasBadManifest, HasManifest, IsDamaged, NamesOther, StandsFor, joined}
use Rattle.part_log.proofs.Meaning.{one_manifest}
use Rattle.part_log.proofs.Records.{goes_on, next_after-append, one_meaning}
use Rattle.part_log.proofs.Wholes.{same_some}

rises_front : (low : ℕ) (xs ys : List Written) → RisesFrom low (xs ++ ys) → RisesFrom low xs
rises_front low [] ys rises = tt
rises_front low (x ∷ xs) ys rises = (rises.0, rises_front (lsn_of x.entry + 1) xs ys rises.1)

rises_back : (low : ℕ) (xs ys : List Written) → RisesFrom low (xs ++ ys) → RisesFrom (next_after low xs) ys
rises_back low [] ys rises = rises
rises_back low (x ∷ xs) ys rises = rises_back (lsn_of x.entry + 1) xs ys rises.1

-- no record begins here whose lsn rises behind these
abbrev NoneRises : ℕ → List Written → List ℕ → Type 0
NoneRises low written rest = (entry : Record) → BeginsWith rest entry → next_after low written ≤ lsn_of entry → ⊥

-- bytes that have a record in front begin with it
begins_first : (w : Written) (ws : List Written) (more rest : List ℕ) → Spells w.text w.entry → laid (w ∷ ws) ++ more ≡ rest → BeginsWith rest w.entry
begins_first w ws more rest spelled same = record { text = w.text; spelled = spelled; rest = laid ws ++ more; parts = sym same ∙ append_assoc w.text (laid ws) more }

-- Two readings of the same bytes, each with a record in front: the records are the same, and so are the bytes behind them.
record AreAlike (x y : Written) (more rest : List ℕ) : Type 0 where
  entries : x.entry ≡ y.entry
  texts : x.text ≡ y.text
  behind : more ≡ rest

alike : (x y : Written) (xs ys : List Written) (more rest : List ℕ) → Spells x.text x.entry → Spells y.text y.entry → laid (x ∷ xs) ++ more ≡ laid (y ∷ ys) ++ rest → AreAlike x y (laid xs ++ more) (laid ys ++ rest)
alike x y xs ys more rest good well same =
    let both : x.text ++ (laid xs ++ more) ≡ y.text ++ (laid ys ++ rest) = sym (append_assoc x.text (laid xs) more) ∙ same ∙ append_assoc y.text (laid ys) rest in
    let apart = spellings_apart x.text y.text x.entry y.entry (laid xs ++ more) (laid ys ++ rest) good well both in
    record { entries = apart.0; texts = apart.1; behind = apart.2 }

-- whole records with an end behind them don't end badly as well
no_bad : (low : ℕ) (xs ys : List Written) (more rest : List ℕ) → AreWritten xs → AreWritten ys → RisesFrom low xs → EndsHere more → (EndsHere rest → ⊥) → NoneRises low ys rest → laid xs ++ more ≡ laid ys ++ rest → ⊥
no_bad low [] [] more rest good well rises end goes none same = goes (subst EndsHere same end)
no_bad low [] (y ∷ ys) more rest good well rises end goes none same = goes_on y.text y.entry more (laid ys ++ rest) well.0 (same ∙ append_assoc y.text (laid ys) rest) end
no_bad low (x ∷ xs) [] more rest good well rises end goes none same = none x.entry (begins_first x xs more rest good.0 same) rises.0
no_bad low (x ∷ xs) (y ∷ ys) more rest good well rises end goes none same =
    let both = alike x y xs ys more rest good.0 well.0 same in
    no_bad (lsn_of y.entry + 1) xs ys more rest good.1 well.1 (subst (λ (r : Record). RisesFrom (lsn_of r + 1) xs) both.entries rises.1) end goes none both.behind

-- bytes end badly behind the same records
one_end : (low : ℕ) (xs ys : List Written) (more rest : List ℕ) → AreWritten xs → AreWritten ys → RisesFrom low xs → RisesFrom low ys → NoneRises low xs more → NoneRises low ys rest → laid xs ++ more ≡ laid ys ++ rest → length (laid xs) ≡ length (laid ys)
one_end low [] [] more rest good well rises too none also same = refl
one_end low [] (y ∷ ys) more rest good well rises too none also same = absurd (none y.entry (begins_first y ys rest more well.0 (sym same)) too.0)
one_end low (x ∷ xs) [] more rest good well rises too none also same = absurd (also x.entry (begins_first x xs more rest good.0 same) rises.0)
one_end low (x ∷ xs) (y ∷ ys) more rest good well rises too none also same =
    let both = alike x y xs ys more rest good.0 well.0 same in
    let behind = one_end (lsn_of y.entry + 1) xs ys more rest good.1 well.1 (subst (λ (r : Record). RisesFrom (lsn_of r + 1) xs) both.entries rises.1) too.1
    (subst (λ (r : Record). NoneRises (lsn_of r + 1) xs more) both.entries none) also both.behind in
    length-append x.text (laid xs) ∙ ap (λ (l : List ℕ). length l + length (laid xs)) both.texts ∙ ap (λ (n : ℕ). length y.text + n) behind ∙ sym (length-append y.text (laid ys))

one_offset : (low : ℕ) (bytes : List ℕ) (a b : ℕ) → EndsBadly low bytes a → EndsBadly low bytes b → a ≡ b
one_offset low bytes a b one two =
    sym one.size ∙ one_end low one.written two.written one.rest two.rest one.good two.good one.rises two.rises one.none two.none (sym one.split ∙ two.split) ∙ two.size

-- a segment that holds records which rise doesn't end badly
holds_well : (low : ℕ) (bytes : List ℕ) (part : List Written) (more : List Written) (offset : ℕ) → HoldsRecords bytes part → RisesFrom low (part ++ more) → EndsBadly low bytes offset → ⊥
holds_well low bytes part more offset here rises bad = no_bad low part bad.written here.rest bad.rest here.good bad.good (rises_front low part more rises) here.ends bad.goes_on bad.none (sym here.split ∙ bad.split)

-- nor does any of the segments
no_bad_log : (segment : ℕ) (bytes : List ℕ) (low offset : ℕ) (before : List Live) (live : Live) (after : List Live) (xs parts : List (List Written)) → AllHold segment bytes (before ++ live ∷ after) xs → AllHold segment bytes before parts
    → RisesFrom low (joined xs) → EndsBadly (next_after low (joined parts)) (range (place_of segment live.segment) segment bytes) offset → ⊥
no_bad_log segment bytes low offset [] live after [] parts hold some rises bad = hold
no_bad_log segment bytes low offset [] live after (x ∷ xs) (q ∷ parts) hold some rises bad = some
no_bad_log segment bytes low offset [] live after (x ∷ xs) [] hold some rises bad = holds_well low (range (place_of segment live.segment) segment bytes) x (joined xs) offset hold.0 rises bad
no_bad_log segment bytes low offset (b ∷ before) live after [] parts hold some rises bad = hold
no_bad_log segment bytes low offset (b ∷ before) live after (x ∷ xs) [] hold some rises bad = some
no_bad_log segment bytes low offset (b ∷ before) live after (x ∷ xs) (q ∷ parts) hold some rises bad =
    let same : x ≡ q = one_meaning (range (place_of segment b.segment) segment bytes) x q hold.0 some.0 in
    no_bad_log segment bytes (next_after low q) offset before live after xs parts hold.1 some.1
    (subst (λ (l : List Written). RisesFrom (next_after low l) (joined xs)) same (rises_back low x (joined xs) rises))
    (subst (λ (n : ℕ). EndsBadly n (range (place_of segment live.segment) segment bytes) offset) (next_after-append low q (joined parts)) bad)

-- the live segments have one place where they end badly
module _ (segment : ℕ) (bytes : List ℕ) where
  abbrev held : Live → List ℕ
  held live = range (place_of segment live.segment) segment bytes

  one_bad : (low a b : ℕ) (before also : List Live) (live other : Live) (after rest : List Live) (parts too : List (List Written)) → before ++ live ∷ after ≡ also ++ other ∷ rest → AllHold segment bytes before parts → AllHold segment bytes also too
      → RisesFrom low (joined parts) → RisesFrom low (joined too)
      → EndsBadly (next_after low (joined parts)) (range (place_of segment live.segment) segment bytes) a → EndsBadly (next_after low (joined too)) (range (place_of segment other.segment) segment bytes) b
      → place_of segment live.segment + a ≡ place_of segment other.segment + b
  one_bad low a b [] [] live other after rest [] [] same hold has rises well bad ill =
      let first : live ≡ other = cc same in
      let offsets : a ≡ b = one_offset low (held other) a b (subst (λ (l : Live). EndsBadly low (held l) a) first bad) ill in
      ap (λ (l : Live). place_of segment l.segment + a) first ∙ ap (λ (n : ℕ). place_of segment other.segment + n) offsets
  one_bad low a b [] (f ∷ also) live other after rest [] (y ∷ too) same hold has rises well bad ill =
      let first : live ≡ f = cc same in
      absurd (holds_well low (held f) y (joined too) a has.0 well (subst (λ (l : Live). EndsBadly low (held l) a) first bad))
  one_bad low a b (e ∷ before) [] live other after rest (x ∷ parts) [] same hold has rises well bad ill =
      let first : e ≡ other = cc same in
      absurd (holds_well low (held e) x (joined parts) b hold.0 rises (subst (λ (l : Live). EndsBadly low (held l) b) (sym first) ill))
  one_bad low a b (e ∷ before) (f ∷ also) live other after rest (x ∷ parts) (y ∷ too) same hold has rises well bad ill =
      let first : e ≡ f = cc same in
      let behind : before ++ live ∷ after ≡ also ++ other ∷ rest = cc same in
      let records : x ≡ y = one_meaning (held f) x y (subst (λ (l : Live). HoldsRecords (held l) x) first hold.0) has.0 in
      one_bad (next_after low y) a b before also live other after rest parts too behind hold.1 has.1
      (subst (λ (l : List Written). RisesFrom (next_after low l) (joined parts)) records (rises_back low x (joined parts) rises))
      (rises_back low y (joined too) well)
      (subst (λ (n : ℕ). EndsBadly n (held live) a) (next_after-append low x (joined parts) ∙ ap (λ (l : List Written). next_after (next_after low l) (joined parts)) records) bad)
      (subst (λ (n : ℕ). EndsBadly n (held other) b) (next_after-append low y (joined too)) ill)
  one_bad low a b [] also live other after rest (x ∷ parts) too same hold has rises well bad ill = absurd hold
  one_bad low a b (e ∷ before) also live other after rest [] too same hold has rises well bad ill = absurd hold
  one_bad low a b [] [] live other after rest [] (y ∷ too) same hold has rises well bad ill = absurd has
  one_bad low a b [] (f ∷ also) live other after rest [] [] same hold has rises well bad ill = absurd has
  one_bad low a b (e ∷ before) [] live other after rest (x ∷ parts) (y ∷ too) same hold has rises well bad ill = absurd has
  one_bad low a b (e ∷ before) (f ∷ also) live other after rest (x ∷ parts) [] same hold has rises well bad ill = absurd has

no_value : {A : Type 0} (a : A) → ◌≡◌ {A = Option A} (Some a) None → ⊥
no_value a is = absurd (cc is)

-- a cell that holds a manifest holds no other bytes
not_bad : (bytes : List ℕ) (at : ℕ) (manifest : Manifest) → HasManifest manifest bytes → HasBadManifest bytes at → ⊥
not_bad bytes at manifest has bad = bad.none manifest has.good (same_some bad.held (manifest_text manifest) (sym bad.value ∙ has.value))

-- bytes that stand for a log aren't those of other settings
pub names_its_own : (settings other : LogSettings) (bytes : List ℕ) (xs : List Record) (n : ℕ) → StandsFor settings bytes xs n → NamesOther settings other bytes → ⊥
names_its_own settings other bytes xs n (inl log) names = names.differs (sym names.names ∙ ap (λ (m : Manifest). m.settings) (one_manifest names.manifest log.manifest bytes names.has log.has) ∙ log.same)
names_its_own settings other bytes xs n (inr fresh) names = no_value (manifest_text names.manifest) (sym names.has.value ∙ fresh.none)

-- and they aren't damaged
pub undamaged : (settings : LogSettings) (bytes : List ℕ) (xs : List Record) (n at : ℕ) → StandsFor settings bytes xs n → IsDamaged settings bytes at → ⊥
undamaged settings bytes xs n at (inl log) (inl bad) = not_bad bytes at log.manifest log.has bad
undamaged settings bytes xs n at (inl log) (inr bad) =
    let same : bad.manifest ≡ log.manifest = one_manifest bad.manifest log.manifest bytes bad.has log.has in
    let lives : log.manifest.live ≡ bad.bad.before ++ bad.bad.live ∷ bad.bad.after = sym (ap (λ (m : Manifest). m.live) same) ∙ bad.bad.split in
    no_bad_log settings.segment bytes 0 bad.bad.offset bad.bad.before bad.bad.live bad.bad.after log.parts bad.bad.parts
    (subst (λ (l : List Live). AllHold settings.segment bytes l log.parts) lives log.hold) bad.bad.hold log.rises bad.bad.bad
undamaged settings bytes xs n at (inr fresh) (inl bad) = no_value bad.held (sym bad.value ∙ fresh.none)
undamaged settings bytes xs n at (inr fresh) (inr bad) = no_value (manifest_text bad.manifest) (sym bad.has.value ∙ fresh.none)

-- damage has one place
pub one_damage : (settings : LogSettings) (bytes : List ℕ) (a b : ℕ) → IsDamaged settings bytes a → IsDamaged settings bytes b → a ≡ b
one_damage settings bytes a b (inl one) (inl two) = one.at ∙ sym two.at
one_damage settings bytes a b (inl one) (inr two) = absurd (not_bad bytes a two.manifest two.has one)
one_damage settings bytes a b (inr one) (inl two) = absurd (not_bad bytes b one.manifest one.has two)
one_damage settings bytes a b (inr one) (inr two) =
    let same : one.manifest ≡ two.manifest = one_manifest one.manifest two.manifest bytes one.has two.has in
    let lives = sym one.bad.split ∙ ap (λ (m : Manifest). m.live) same ∙ two.bad.split in
    one.bad.at
    ∙ one_bad settings.segment bytes 0 one.bad.offset two.bad.offset one.bad.before two.bad.before one.bad.live two.bad.live one.bad.after two.bad.after one.bad.parts two.bad.parts lives one.bad.hold two.bad.hold one.bad.rises two.bad.rises one.bad.bad two.bad.bad
    ∙ sym two.bad.at
