-- The disks of a node's replicas go home one by one.
use Rattle.std.proofs.Common.{◌≡◌, ◌≢◌, inl, inr, ⊎_elim, ℕ, ◌==◌, nat_eq, Bool, true, false, arith, cond, length, List, [], ◌∷◌, ◌++◌, Option, Some, None, refl, sym, ◌∙◌, ap, subst}
use Rattle.std.specs.List.{AllByRecursion, IsDistinct}
use Rattle.std.specs.Map.{keys_of}
use Rattle.std.specs.Prelude.{IsSome}
use Rattle.std.proofs.lemmas.Bool.{cases_eq}
use Rattle.disk_core.specs.Content.{Content}
use Rattle.disk_core.specs.Homes.{Home, Out, OthersStay}
use Rattle.node_core.specs.Ports.{port_in}
use Rattle.replica_core.specs.State.{ReplicaState}
use Rattle.world_model.proofs.CellLaws.{number_true, same_number}
use Rattle.node_lab.specs.Calls.{PortsOut}
use Rattle.node_lab.specs.Slots.{GoesHome, OtherNodesStay}
use Rattle.node_lab.proofs.SlotLemmas.{slot_with}

module _ {P : Type 0} where
  all_last : (Q : ℕ → Type 0) (ys : List (ℕ × P)) (q : ℕ) (r : P) → AllByRecursion Q (keys_of (ys ++ (q, r) ∷ [])) → Q q
  all_last Q [] q r all = all.0
  all_last Q (y ∷ ys) q r all = all_last Q ys q r all.1

  all_front : (Q : ℕ → Type 0) (ys : List (ℕ × P)) (q : ℕ) (r : P) → AllByRecursion Q (keys_of (ys ++ (q, r) ∷ [])) → AllByRecursion Q (keys_of ys)
  all_front Q [] q r all = tt
  all_front Q (y ∷ ys) q r all = (all.0, all_front Q ys q r all.1)

  pub distinct_front : (xs : List (ℕ × P)) (q : ℕ) (r : P) → IsDistinct nat_eq (keys_of (xs ++ (q, r) ∷ [])) → IsDistinct nat_eq (keys_of xs)
  unfolding IsDistinct
  distinct_front [] q r apart = tt
  distinct_front (y ∷ ys) q r apart = (all_front (λ k. nat_eq y.0 k ≡ false) ys q r apart.0, distinct_front ys q r apart.1)

  pub none_front : (xs : List (ℕ × P)) (q : ℕ) (r : P) → IsDistinct nat_eq (keys_of (xs ++ (q, r) ∷ [])) → port_in xs q ≡ None
  unfolding IsDistinct
  none_front [] q r apart = refl
  none_front (y ∷ ys) q r apart = ap (λ (b : Bool). cond b (Some y.1) (port_in ys q)) (all_last (λ k. nat_eq y.0 k ≡ false) ys q r apart.0) ∙ none_front ys q r apart.1

  pub found_last : (xs : List (ℕ × P)) (q : ℕ) (r : P) → port_in xs q ≡ None → port_in (xs ++ (q, r) ∷ []) q ≡ Some r
  found_last [] q r none = ap (λ (b : Bool). cond b (Some r) None) (same_number q)
  found_last (y ∷ ys) q r none = go (λ h. found_last ys q r h) (y.0 == q) refl
    where
      go : (port_in ys q ≡ None → port_in (ys ++ (q, r) ∷ []) q ≡ Some r) → (b : Bool) → (y.0 == q) ≡ b → port_in (y ∷ (ys ++ (q, r) ∷ [])) q ≡ Some r
      go rest true is = absurd (let no : ◌≡◌ {A = Option P} (Some y.1) None = sym (ap (λ (b : Bool). cond b (Some y.1) (port_in ys q)) is) ∙ none in cc)
      go rest false is = ap (λ (b : Bool). cond b (Some y.1) (port_in (ys ++ (q, r) ∷ []) q)) is ∙ rest (sym (ap (λ (b : Bool). cond b (Some y.1) (port_in ys q)) is) ∙ none)

  pub none_left : (xs : List (ℕ × P)) (p : ℕ) → length xs ≡ 0 → port_in xs p ≡ None
  none_left [] p few = refl
  none_left (x ∷ xs) p few = absurd (omega (arith, few))

  pub other_last : (xs : List (ℕ × P)) (q p : ℕ) (r : P) → p ≢ q → port_in (xs ++ (q, r) ∷ []) p ≡ port_in xs p
  other_last [] q p r other = go (q == p) refl
    where
      go : (b : Bool) → (q == p) ≡ b → port_in ((q, r) ∷ []) p ≡ None
      go true is = absurd (other (sym (number_true q p is)))
      go false is = ap (λ (b : Bool). cond b (Some r) None) is
  other_last (y ∷ ys) q p r other = ap (λ (o : Option P). cond (y.0 == p) (Some y.1) o) (other_last ys q p r other)

module _ {D : Type 0} (tells : Type 0) (content : D → Content) (size : D → ℕ) (stops : Bool) (folder : List ℕ) (node : ℕ) (whole : List (ℕ × ReplicaState D)) (home : Home D) (out : Out) where
  -- The disks of the rest are out still, and all others of the whole are at home.
  pub record SendsRest (rest : List (ℕ × ReplicaState D)) (new_home : Home D) (new_out : Out) : Type 0 where
    pub front : (p : ℕ) → IsSome (port_in rest p) → port_in whole p ≡ port_in rest p
    pub kept : (p : ℕ) → IsSome (port_in rest p) → (new_home folder node p ≡ home folder node p) × (new_out node p ≡ out node p)
    pub sent : (p : ℕ) → port_in rest p ≡ None → GoesHome tells content size stops (port_in whole p) (slot_with (port_in whole p) (home folder node p) (out node p)) (slot_with None (new_home folder node p) (new_out node p))
    pub others : OtherNodesStay folder node home out new_home new_out

  pub none_sent : SendsRest whole home out
  none_sent = record {
    front = λ p some. refl;
    kept = λ p some. (refl, refl);
    sent = λ p none. subst (λ (o : Option (ReplicaState D)). GoesHome tells content size stops o (slot_with o (home folder node p) (out node p)) (slot_with None (home folder node p) (out node p))) (sym none) refl;
    others = record { homes = λ f n p apart. refl; outs = λ n p apart. refl };
  }

  module _ (rest : List (ℕ × ReplicaState D)) (q : ℕ) (r : ReplicaState D) (mid_home new_home : Home D) (mid_out new_out : Out) (apart : IsDistinct nat_eq (keys_of (rest ++ (q, r) ∷ []))) (sends : SendsRest (rest ++ (q, r) ∷ []) mid_home mid_out) where
    last_here : port_in (rest ++ (q, r) ∷ []) q ≡ Some r
    last_here = found_last rest q r (none_front rest q r apart)

    last_some : IsSome (port_in (rest ++ (q, r) ∷ []) q)
    last_some = subst (λ (o : Option (ReplicaState D)). IsSome o) (sym last_here) refl

    -- the disk of the last one is out under the folder
    pub last_out : PortsOut folder node whole out → mid_out node q ≡ Some folder
    last_out outs = (sends.kept q last_some).1 ∙ outs q (subst (λ (o : Option (ReplicaState D)). IsSome o) (sym (sends.front q last_some)) last_some)

    not_last : (p : ℕ) → IsSome (port_in rest p) → p ≢ q
    not_last p some same = (let no : IsSome {T = ReplicaState D} None = subst (λ (o : Option (ReplicaState D)). IsSome o) (ap (port_in rest) same ∙ none_front rest q r apart) some in cc)

    -- one more goes home
    pub sends_last : GoesHome tells content size stops (Some r) (slot_with (Some r) (mid_home folder node q) (mid_out node q)) (slot_with None (new_home folder node q) (new_out node q)) → OthersStay folder node q mid_home mid_out new_home new_out → SendsRest rest new_home new_out
    sends_last goes stay = record {
      front = λ p some. sends.front p (also p some) ∙ other_last rest q p r (not_last p some);
      kept = λ p some.
          let was = sends.kept p (also p some) in
          (stay.homes folder node p (inr (inr (not_last p some))) ∙ was.0, stay.outs node p (inr (not_last p some)) ∙ was.1);
      sent = λ p none. elim (cases_eq p q) [
        | inl same ↦ subst (λ (i : ℕ). GoesHome tells content size stops (port_in whole i) (slot_with (port_in whole i) (home folder node i) (out node i)) (slot_with None (new_home folder node i) (new_out node i))) (sym same) here
        | inr other ↦
            subst (λ (h : Option D). GoesHome tells content size stops (port_in whole p) (slot_with (port_in whole p) (home folder node p) (out node p)) (slot_with None h (new_out node p))) (sym (stay.homes folder node p (inr (inr other))))
            (subst (λ (o : Option (List ℕ)). GoesHome tells content size stops (port_in whole p) (slot_with (port_in whole p) (home folder node p) (out node p)) (slot_with None (mid_home folder node p) o)) (sym (stay.outs node p (inr other)))
            (sends.sent p (other_last rest q p r other ∙ none)))
      ];
      others = record {
        homes = λ f n p away. stay.homes f n p (⊎_elim (λ (a : f ≢ folder). inl a) (λ (b : n ≢ node). inr (inl b)) away) ∙ sends.others.homes f n p away;
        outs = λ n p away. stay.outs n p (inl away) ∙ sends.others.outs n p away;
      };
    }
      where
        also : (p : ℕ) → IsSome (port_in rest p) → IsSome (port_in (rest ++ (q, r) ∷ []) p)
        also p some = subst (λ (o : Option (ReplicaState D)). IsSome o) (sym (other_last rest q p r (not_last p some))) some

        here : GoesHome tells content size stops (port_in whole q) (slot_with (port_in whole q) (home folder node q) (out node q)) (slot_with None (new_home folder node q) (new_out node q))
        here =
            let was = sends.kept q last_some in
            subst (λ (o : Option (ReplicaState D)). GoesHome tells content size stops o (slot_with o (home folder node q) (out node q)) (slot_with None (new_home folder node q) (new_out node q))) (sym (sends.front q last_some ∙ last_here))
            (subst (λ (h : Option D). GoesHome tells content size stops (Some r) (slot_with (Some r) h (out node q)) (slot_with None (new_home folder node q) (new_out node q))) was.0
            (subst (λ (o : Option (List ℕ)). GoesHome tells content size stops (Some r) (slot_with (Some r) (mid_home folder node q) o) (slot_with None (new_home folder node q) (new_out node q))) was.1 goes))
