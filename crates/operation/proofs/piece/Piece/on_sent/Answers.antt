use Rattle.std.proofs.Common.{◌≡◌, ℕ, ◌+◌, ◌<◌, ◌≤◌, true, false, ◌∷◌, length, sym, ap, ◌∙◌, subst, arith, slice_set, get_or-set_same, get_or-set_other, length-set}
use Rattle.std.proofs.lemmas.List.Elements.{All-cons, All-same}
use Rattle.quorum_op.specs.Counts.{count_below}
use Rattle.operation.specs.declared.piece.Open.{Open}
use Rattle.operation.specs.Pieces.{IsPieceOf, PieceView, asked_at}
use Rattle.operation.proofs.ListLaws.{count_more, count_room}
use Rattle.operation.proofs.PieceLaws.{piece_sent}
use Rattle.operation.proofs.piece.Piece.on_sent.Goals as goal

pub insert-requires : goal.insert-requires
insert-requires c =
    let s = c.self.inside in
    let v = c.self.invariant in
    let within : c.args.replica < s.tally.replicas = subst (λ (w : PieceView). c.args.replica < w.tally.replicas) (sym c.self.view_is) c.requires.within in
    let below : c.args.replica < length s.asked = omega (arith, v.0, v.2, v.3) in
    let fresh : asked_at s.asked c.args.replica ≡ false = subst (λ (w : PieceView). asked_at w.asked c.args.replica ≡ false) (sym c.self.view_is) c.requires.fresh in
    let room : count_below (length s.asked) (asked_at s.asked) < length s.asked = count_room (length s.asked) (asked_at s.asked) c.args.replica below fresh in
    let small : length s.requests.items < 9 = omega (arith, v.3, v.4) in
    (omega arith, (omega arith, small))

pub invariant_of-self : goal.invariant_of-self
invariant_of-self c =
    let s = c.self.inside in
    let v = c.self.invariant in
    let k : ℕ = c.args.replica in
    let within : k < s.tally.replicas = subst (λ (w : PieceView). k < w.tally.replicas) (sym c.self.view_is) c.requires.within in
    let below : k < length s.asked = omega (arith, v.0, v.2, v.3) in
    let fresh : asked_at s.asked k ≡ false = subst (λ (w : PieceView). asked_at w.asked k ≡ false) (sym c.self.view_is) c.requires.fresh in
    let long : length (slice_set s.asked k true) ≡ length s.asked = length-set s.asked k true in
    let more : count_below (length s.asked) (asked_at (slice_set s.asked k true)) ≡ 1 + count_below (length s.asked) (asked_at s.asked) =
    count_more (length s.asked) (asked_at s.asked) (asked_at (slice_set s.asked k true)) k below fresh (get_or-set_same s.asked k true false below) (λ r other. get_or-set_other s.asked k r true false other) in
    let grown : length c.insert.new.self.items ≤ count_below (length s.asked) (asked_at (slice_set s.asked k true)) = (let n = c.insert.ensures.len in omega (arith, v.4)) in (
      v.0,
      v.1,
      v.2,
      long ∙ v.3,
      subst (λ (n : ℕ). length c.insert.new.self.items ≤ count_below n (asked_at (slice_set s.asked k true))) (sym long) grown,
      All-same (λ (o : Open). o.replica < s.tally.replicas) c.insert.new.self.items (record { request = c.args.request; replica = k } ∷ s.requests.items) c.insert.ensures.items
          (All-cons (λ (o : Open). o.replica < s.tally.replicas) (record { request = c.args.request; replica = k }) s.requests.items within v.5),
    )

pub returns-clause-goes_on : goal.returns-clause-goes_on
returns-clause-goes_on c = λ t calls sending request replica own h.
    let s = c.self.inside in
    let v = c.self.invariant in
    let view : PieceView = record { chunk = s.chunk; attempt = s.attempt; errand = s.errand; requests = s.requests.items; asked = s.asked; tally = s.tally; blob = s.blob } in
    let within : c.args.replica < s.tally.replicas = subst (λ (w : PieceView). c.args.replica < w.tally.replicas) (sym c.self.view_is) c.requires.within in
    let below : sending.replica < length s.asked = omega (arith, v.0, v.2, v.3) in
    piece_sent t view calls sending c.insert.new.self.items (slice_set s.asked c.args.replica true) (subst (λ (w : PieceView). IsPieceOf t w calls) (sym c.self.view_is) h) own
    (c.insert.ensures.items ∙ (λ i. record { request = sym request i; replica = sym replica i } ∷ s.requests.items)) (ap (λ (r : ℕ). slice_set s.asked r true) (sym replica)) below
