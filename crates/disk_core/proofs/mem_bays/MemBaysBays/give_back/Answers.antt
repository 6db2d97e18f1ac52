use Rattle.std.proofs.Common.{◌≡◌, ◌∙◌, Bool, List, Option, Some, ℕ, ap, subst, sym, refl}
use Rattle.std.specs.List.{position}
use Rattle.std.specs.Option.{IsSome}
use Rattle.disk_core.specs.declared.places.Place.{Place}
use Rattle.disk_core.specs.Places.{is_out}
use Rattle.disk_core.proofs.Placing.{position_out, filled_apart, filled_one, at_home, put}
use Rattle.disk_core.proofs.mem_bays.MemBaysBays.give_back.Goals as goal

pub unwrap-index-requires : goal.unwrap-index-requires
unwrap-index-requires c =
    let test : Place → Bool = is_out c.args.node c.args.partition in
    let is : c.find_out.result ≡ position test c.args.self.now.places.items = c.find_out.ensures ∙ ap (λ (l : List Place). position test l) c.deref.ensures.value in
    subst (λ (o : Option ℕ). IsSome o) (sym is) (position_out c.args.self.now.places.items c.args.node c.args.partition (c.requires tt))

pub invariant_of-self : goal.invariant_of-self
invariant_of-self c =
    let self = c.args.self.now in
    let test : Place → Bool = is_out c.args.node c.args.partition in
    let first : position test self.places.items ≡ Some c.unwrap-index.result =
    ap (λ (l : List Place). position test l) (sym c.deref.ensures.value) ∙ (sym c.find_out.ensures ∙ c.unwrap-index.ensures) in
    record {
      apart = filled_apart self.places.items c.unwrap-index.result c.args.node c.args.partition c.args.disk c.index_mut-place.result.now _ first (sym c.index_mut-place.ensures.value) refl self.apart;
      one_is_out = filled_one self.places.items c.unwrap-index.result c.args.node c.args.partition c.args.disk c.index_mut-place.result.now _ first (sym c.index_mut-place.ensures.value) refl self.one_is_out;
    }

pub returns-clause-home : goal.returns-clause-home
returns-clause-home c = λ u folder out.
    let self = c.args.self.now in
    let test : Place → Bool = is_out c.args.node c.args.partition in
    let first : position test self.places.items ≡ Some c.unwrap-index.result =
    ap (λ (l : List Place). position test l) (sym c.deref.ensures.value) ∙ (sym c.find_out.ensures ∙ c.unwrap-index.ensures) in
    put self.places.items c.unwrap-index.result c.args.node c.args.partition c.args.disk c.index_mut-place.result.now _ first (sym c.index_mut-place.ensures.value) refl self.apart self.one_is_out folder out

pub returns-clause-very : goal.returns-clause-very
returns-clause-very c = λ folder out.
    let self = c.args.self.now in
    let test : Place → Bool = is_out c.args.node c.args.partition in
    let first : position test self.places.items ≡ Some c.unwrap-index.result =
    ap (λ (l : List Place). position test l) (sym c.deref.ensures.value) ∙ (sym c.find_out.ensures ∙ c.unwrap-index.ensures) in
    at_home self.places.items c.unwrap-index.result c.args.node c.args.partition c.args.disk c.index_mut-place.result.now _ first (sym c.index_mut-place.ensures.value) refl self.apart folder out
