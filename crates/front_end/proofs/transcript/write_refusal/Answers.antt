use Rattle.std.proofs.Common.{◌≡◌, ◌++◌, ◌∷◌, [], List, ℕ, subst}
use Rattle.std.specs.Fmt.{decimal}
use Rattle.std.specs.Prelude.{OnOk, codes}
use Rattle.front_end.specs.Pieces.{piece_text}
use Rattle.front_end.specs.Transcript.{what_words}
use Rattle.front_end.proofs.PieceLemmas.{pieces_flat}
use Rattle.front_end.proofs.transcript.write_refusal.Goals as goal

pub returns-clause-ok : goal.returns-clause-ok
returns-clause-ok c =
    let refusal = c.args.refusal.now in
    subst (λ (t : List ℕ). OnOk c.write_pieces.result (c.write_pieces.new.out.items ≡ c.args.out.now.items ++ t))
    (pieces_flat (codes "refused ") (decimal refusal.node) (codes " ") (decimal refusal.partition) c.what_pieces-place.result.0.now (piece_text c.what_pieces-place.result.1) (what_words refusal.what) (10 ∷ []) c.what_pieces-place.ensures)
    (subst (λ (n : ℕ). OnOk c.write_pieces.result (c.write_pieces.new.out.items ≡ c.args.out.now.items ++ (codes "refused " ++ (decimal refusal.node ++ (codes " " ++ (decimal n ++ (c.what_pieces-place.result.0.now ++ (piece_text c.what_pieces-place.result.1 ++ 10 ∷ [])))))))) c.from-2.ensures
    (subst (λ (n : ℕ). OnOk c.write_pieces.result (c.write_pieces.new.out.items ≡ c.args.out.now.items ++ (codes "refused " ++ (decimal n ++ (codes " " ++ (decimal c.from-2.result ++ (c.what_pieces-place.result.0.now ++ (piece_text c.what_pieces-place.result.1 ++ 10 ∷ [])))))))) c.from.ensures
    c.write_pieces.ensures.ok))
