-- The bytes of a record, as they are read.
use Rattle.std.proofs.Common.{◌≡◌, ℕ, ◌+◌, ◌-◌, ◌≤◌, List, [], ◌++◌, length, take, drop, Option, Some, None, refl, sym, ◌∙◌, ap, subst, arith, append-nil, take-append-drop}
use Rattle.std.proofs.lemmas.List.{take_all, take_at}
use Rattle.disk_core.specs.Content.{range}
use Rattle.disk_core.proofs.Ranges.{range-split}
use Rattle.msg_format.specs.declared.record.Record.{Record}
use Rattle.msg_format.specs.Records.{BeginsWith, Spells}
use Rattle.part_log.specs.Scan.{IsHeld}

-- what is there, or this where nothing is
there_or : {A : Type 0} → A → Option A → A
there_or other (Some x) = x
there_or other None = other

pub same_some : {A : Type 0} (a b : A) → ◌≡◌ {A = Option A} (Some a) (Some b) → a ≡ b
unfolding there_or
same_some a b is = ap (there_or a) is

pub not_both : {A : Type 0} (found : Option A) (a : A) → found ≡ Some a → found ≡ None → ⊥
not_both {A = A} found a some none = let e : ◌≡◌ {A = Option A} (Some a) None = sym some ∙ none in absurd (cc e)

-- a buffer that was filled behind its front
pub both_parts : (place count : ℕ) (front bytes seen : List ℕ) → length front ≤ count → IsHeld place front seen → take (length front) bytes ≡ front → drop (length front) bytes ≡ range (place + length front) (count - length front) seen → bytes ≡ range place count seen
both_parts place count front bytes seen within held first rest =
    let n : ℕ = length front in
    sym (take-append-drop n bytes)
    ∙ ap (λ (l : List ℕ). l ++ drop n bytes) (first ∙ held)
    ∙ ap (λ (l : List ℕ). range place n seen ++ l) rest
    ∙ sym (range-split place n (count - n) seen)
    ∙ ap (λ (k : ℕ). range place k seen) (let e : n + (count - n) ≡ count = omega (arith, within) in e)

-- A record whose text is all of the bytes is what they spell.
pub whole_spells : (bytes : List ℕ) (entry : Record) (begins : BeginsWith bytes entry) → length begins.text ≡ length bytes → Spells bytes entry
whole_spells bytes entry begins all =
    let n : ℕ = length begins.text in
    let text_is : begins.text ≡ bytes = sym (take_at begins.text begins.rest n refl) ∙ ap (λ (l : List ℕ). take n l) (sym begins.parts) ∙ take_all n bytes (omega (arith, all)) in
    subst (λ (l : List ℕ). Spells l entry) text_is begins.spelled

abbrev pub begins_whole : (bytes : List ℕ) (entry : Record) → Spells bytes entry → BeginsWith bytes entry
begins_whole bytes entry spelled = record { text = bytes; spelled = spelled; rest = []; parts = sym (append-nil bytes) }
