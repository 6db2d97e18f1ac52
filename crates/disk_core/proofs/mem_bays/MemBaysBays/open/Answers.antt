use Rattle.std.proofs.Common.{◌≡◌, ◌∙◌, inr, ⊎_elim, Bool, List, Option, None, ℕ, ap, subst, sym, refl}
use Rattle.std.specs.List.{position, Contains}
use Rattle.std.specs.Option.{is_some, IsSome}
use Rattle.std.proofs.lemmas.Bool.{both_ways}
use Rattle.std.proofs.lemmas.Option.{none-some}
use Rattle.disk_core.specs.declared.places.Place.{Place}
use Rattle.disk_core.specs.declared.failing.Failing.{Failing}
use Rattle.disk_core.specs.MemBays.{listed_in}
use Rattle.disk_core.specs.Places.{is_at, is_out, disk_at, home_of, out_of}
use Rattle.disk_core.proofs.Placing.{some_out, none_out_there, position_out, found_none}
use Rattle.disk_core.proofs.Openings.{any_ok, memory_is_no_failure, other_is_no_failure, answers}
use Rattle.disk_core.proofs.mem_bays.MemBaysBays.open.Goals as goal

pub returns-then-is_some-clause-exact : goal.returns-then-is_some-clause-exact
returns-then-is_some-clause-exact c =
    let items : List Place = c.args.self.now.places.items in
    let test : Place → Bool = is_out c.args.node c.args.partition in
    let is : is_some c.find_out.result ≡ is_some (position test items) = ap (λ (o : Option ℕ). is_some o) (c.find_out.ensures ∙ ap (λ (l : List Place). position test l) c.deref.ensures.value) in
    let some : IsSome (out_of items c.args.node c.args.partition) = some_out items c.args.node c.args.partition (sym is ∙ (sym c.is_some.ensures ∙ c.if-is_some.true)) in
    (λ failed. inr some, λ cause. refl)

pub open_kept-requires-clause-none_out : goal.open_kept-requires-clause-none_out
open_kept-requires-clause-none_out c =
    let items : List Place = c.args.self.now.places.items in
    let test : Place → Bool = is_out c.args.node c.args.partition in
    let is : is_some c.find_out.result ≡ is_some (position test items) = ap (λ (o : Option ℕ). is_some o) (c.find_out.ensures ∙ ap (λ (l : List Place). position test l) c.deref.ensures.value) in
    none_out_there items c.args.node c.args.partition (λ some. both_ways c.is_some.result c.if-is_some.false (c.is_some.ensures ∙ (is ∙ some)))

pub open_new-requires-clause-no_place : goal.open_new-requires-clause-no_place
open_new-requires-clause-no_place c =
    let test : Place → Bool = is_at c.args.folder.now c.args.node c.args.partition in
    found_none test c.args.self.now.places.items (ap (λ (l : List Place). position test l) (sym c.deref-2.ensures.value) ∙ (sym c.find_place.ensures ∙ c.in-None.is))

pub open_new-requires-clause-none_out : goal.open_new-requires-clause-none_out
open_new-requires-clause-none_out c =
    let items : List Place = c.args.self.now.places.items in
    let test : Place → Bool = is_out c.args.node c.args.partition in
    let is : is_some c.find_out.result ≡ is_some (position test items) = ap (λ (o : Option ℕ). is_some o) (c.find_out.ensures ∙ ap (λ (l : List Place). position test l) c.deref.ensures.value) in
    none_out_there items c.args.node c.args.partition (λ some. both_ways c.is_some.result c.if-is_some.false (c.is_some.ensures ∙ (is ∙ some)))

pub returns-in-Some-clause-other_size : goal.returns-in-Some-clause-other_size
returns-in-Some-clause-other_size c = λ u.
    answers _ (home_of c.args.self.now.places.items c.args.folder.now c.args.node c.args.partition) c.args.size c.open_kept.result c.open_kept.ensures.kept c.open_kept.ensures.refused

pub returns-in-Some-clause-is_out : goal.returns-in-Some-clause-is_out
returns-in-Some-clause-is_out c = λ u some.
    let items : List Place = c.args.self.now.places.items in
    let test : Place → Bool = is_out c.args.node c.args.partition in
    let is : is_some c.find_out.result ≡ is_some (position test items) = ap (λ (o : Option ℕ). is_some o) (c.find_out.ensures ∙ ap (λ (l : List Place). position test l) c.deref.ensures.value) in
    absurd (both_ways c.is_some.result c.if-is_some.false (c.is_some.ensures ∙ (is ∙ position_out items c.args.node c.args.partition some)))

pub returns-in-Some-clause-exact : goal.returns-in-Some-clause-exact
returns-in-Some-clause-exact c =
    let items : List Place = c.args.self.now.places.items in
    let test : Place → Bool = is_out c.args.node c.args.partition in
    let is : is_some c.find_out.result ≡ is_some (position test items) = ap (λ (o : Option ℕ). is_some o) (c.find_out.ensures ∙ ap (λ (l : List Place). position test l) c.deref.ensures.value) in (
      λ failed. absurd (other_is_no_failure _ (home_of items c.args.folder.now c.args.node c.args.partition) c.args.size c.open_kept.result c.open_kept.ensures.refused failed),
      λ cause. absurd (⊎_elim
          (λ (listed : Contains (listed_in c.args.self.now) c.open_kept.new.self.failing.calls).
          both_ways c.fails.result c.if-fails.false (c.fails.ensures.exact.1 (subst (λ (f : Failing). Contains (listed_in c.args.self.now) f.calls) c.open_kept.ensures.rest.0 listed)))
          (λ (some : IsSome (out_of items c.args.node c.args.partition)).
          both_ways c.is_some.result c.if-is_some.false (c.is_some.ensures ∙ (is ∙ position_out items c.args.node c.args.partition some)))
          cause),
    )

pub returns-in-None-clause-is_out : goal.returns-in-None-clause-is_out
returns-in-None-clause-is_out c = λ u some.
    let items : List Place = c.args.self.now.places.items in
    let test : Place → Bool = is_out c.args.node c.args.partition in
    let is : is_some c.find_out.result ≡ is_some (position test items) = ap (λ (o : Option ℕ). is_some o) (c.find_out.ensures ∙ ap (λ (l : List Place). position test l) c.deref.ensures.value) in
    absurd (both_ways c.is_some.result c.if-is_some.false (c.is_some.ensures ∙ (is ∙ position_out items c.args.node c.args.partition some)))

pub returns-in-None-clause-exact : goal.returns-in-None-clause-exact
returns-in-None-clause-exact c =
    let items : List Place = c.args.self.now.places.items in
    let test : Place → Bool = is_out c.args.node c.args.partition in
    let is : is_some c.find_out.result ≡ is_some (position test items) = ap (λ (o : Option ℕ). is_some o) (c.find_out.ensures ∙ ap (λ (l : List Place). position test l) c.deref.ensures.value) in (
      λ failed. absurd (memory_is_no_failure _ c.open_new.result c.open_new.ensures.refused failed),
      λ cause. absurd (⊎_elim
          (λ (listed : Contains (listed_in c.args.self.now) c.open_new.new.self.failing.calls).
          both_ways c.fails.result c.if-fails.false (c.fails.ensures.exact.1 (subst (λ (f : Failing). Contains (listed_in c.args.self.now) f.calls) c.open_new.ensures.rest.0 listed)))
          (λ (some : IsSome (out_of items c.args.node c.args.partition)).
          both_ways c.is_some.result c.if-is_some.false (c.is_some.ensures ∙ (is ∙ position_out items c.args.node c.args.partition some)))
          cause),
    )

pub returns-in-None-clause-memory : goal.returns-in-None-clause-memory
returns-in-None-clause-memory c = λ memory.
    let test : Place → Bool = is_at c.args.folder.now c.args.node c.args.partition in
    ap disk_at (found_none test c.args.self.now.places.items (ap (λ (l : List Place). position test l) (sym c.deref-2.ensures.value) ∙ (sym c.find_place.ensures ∙ c.in-None.is)))

pub returns-in-None-clause-kept : goal.returns-in-None-clause-kept
returns-in-None-clause-kept c =
    let test : Place → Bool = is_at c.args.folder.now c.args.node c.args.partition in
    let empty : home_of c.args.self.now.places.items c.args.folder.now c.args.node c.args.partition ≡ None =
    ap disk_at (found_none test c.args.self.now.places.items (ap (λ (l : List Place). position test l) (sym c.deref-2.ensures.value) ∙ (sym c.find_place.ensures ∙ c.in-None.is))) in
    any_ok c.open_new.result _ (λ disk kept at. absurd (none-some kept (sym empty ∙ at)))
