-- Bytes stand for one list of records and one end lsn.
use Rattle.std.proofs.Common.{◌≡◌, inl, inr, ℕ, max, List, [], ◌∷◌, Option, Some, None, refl, sym, ◌∙◌, ap, subst}
use Rattle.std.proofs.lemmas.List.{append-nil}
use Rattle.disk_core.specs.Content.{range}
use Rattle.log_manifest.specs.declared.manifest.LogSettings.{LogSettings}
use Rattle.log_manifest.specs.declared.manifest.Live.{Live}
use Rattle.log_manifest.specs.declared.manifest.Manifest.{Manifest}
use Rattle.log_manifest.specs.Manifests.{manifest_text}
use Rattle.log_manifest.proofs.Whole.{manifests_apart}
use Rattle.msg_format.specs.declared.record.Record.{Record}
use Rattle.part_log.specs.Records.{Written, entries_of, next_after}
use Rattle.part_log.specs.Segments.{place_of}
use Rattle.part_log.specs.Images.{AllHold, joined, HasManifest, HasLog, IsNew, StandsFor}
use Rattle.part_log.proofs.Records.{one_meaning}
use Rattle.part_log.proofs.Wholes.{same_some}

-- the same segments hold no two lists
pub one_parts : (segment : ℕ) (bytes : List ℕ) (lives : List Live) (xs ys : List (List Written)) → AllHold segment bytes lives xs → AllHold segment bytes lives ys → xs ≡ ys
one_parts segment bytes [] [] [] one two = refl
one_parts segment bytes [] [] (y ∷ ys) one two = absurd two
one_parts segment bytes [] (x ∷ xs) ys one two = absurd one
one_parts segment bytes (live ∷ lives) [] ys one two = absurd one
one_parts segment bytes (live ∷ lives) (x ∷ xs) [] one two = absurd two
one_parts segment bytes (live ∷ lives) (x ∷ xs) (y ∷ ys) one two =
    ap (λ (l : List Written). l ∷ xs) (one_meaning (range (place_of segment live.segment) segment bytes) x y one.0 two.0)
    ∙ ap (λ (l : List (List Written)). y ∷ l) (one_parts segment bytes lives xs ys one.1 two.1)

pub one_manifest : (a b : Manifest) (bytes : List ℕ) → HasManifest a bytes → HasManifest b bytes → a ≡ b
one_manifest a b bytes one two =
    let same : manifest_text a ≡ manifest_text b = same_some (manifest_text a) (manifest_text b) (sym one.value ∙ two.value) in
    (manifests_apart a b [] [] one.good two.good (append-nil (manifest_text a) ∙ same ∙ sym (append-nil (manifest_text b)))).0

-- Two meanings of the same bytes.
pub record AreSame (xs ys : List Record) (m n : ℕ) : Type 0 where
  pub records : xs ≡ ys
  pub end : m ≡ n

pub both_logs : (settings : LogSettings) (bytes : List ℕ) (xs ys : List Record) (m n : ℕ) → HasLog settings bytes xs m → HasLog settings bytes ys n → AreSame xs ys m n
both_logs settings bytes xs ys m n one two =
    let manifest : one.manifest ≡ two.manifest = one_manifest one.manifest two.manifest bytes one.has two.has in
    let parts : one.parts ≡ two.parts = one_parts settings.segment bytes two.manifest.live one.parts two.parts (subst (λ (x : Manifest). AllHold settings.segment bytes x.live one.parts) manifest one.hold) two.hold in
    record {
      records = one.all ∙ ap (λ (l : List (List Written)). entries_of (joined l)) parts ∙ sym two.all;
      end = one.ends ∙ ap (λ (x : Manifest). max x.floor (next_after 0 (joined one.parts))) manifest ∙ ap (λ (l : List (List Written)). max two.manifest.floor (next_after 0 (joined l))) parts ∙ sym two.ends;
    }

pub not_new : (settings : LogSettings) (bytes : List ℕ) (xs ys : List Record) (m n : ℕ) → HasLog settings bytes xs m → IsNew bytes ys n → ⊥
not_new settings bytes xs ys m n one two =
    let both : ◌≡◌ {A = Option (List ℕ)} (Some (manifest_text one.manifest)) None = sym one.has.value ∙ two.none in
    absurd (cc both)

pub one_log : (settings : LogSettings) (bytes : List ℕ) (xs ys : List Record) (m n : ℕ) → StandsFor settings bytes xs m → StandsFor settings bytes ys n → AreSame xs ys m n
one_log settings bytes xs ys m n (inl one) (inl two) = both_logs settings bytes xs ys m n one two
one_log settings bytes xs ys m n (inl one) (inr two) = absurd (not_new settings bytes xs ys m n one two)
one_log settings bytes xs ys m n (inr one) (inl two) = absurd (not_new settings bytes ys xs n m two one)
one_log settings bytes xs ys m n (inr one) (inr two) = record { records = one.empty ∙ sym two.empty; end = one.first ∙ sym two.first }
