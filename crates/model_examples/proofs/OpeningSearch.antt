-- Whether cells that are listed are sound, and whether they name an id, by computing.
use Rattle.std.proofs.Common.{◌≡◌, ℕ, Bool, true, false, cond, not, ◌&&◌, ◌||◌, List, [], ◌∷◌, refl, sym, ap, ◌∙◌, inl, inr, is_some}
use Rattle.blob_id.specs.declared.blob.Blob.{Blob}
use Rattle.blob_id.specs.declared.id.BlobId.{BlobId}
use Rattle.cell_model.specs.declared.cell.Cell.{Cell}
use Rattle.quorum_op.proofs.CountLaws.{and_left, and_right}
use Rattle.world_model.specs.Lists.{Has}
use Rattle.world_model.specs.Pieces.{listed}
use Rattle.world_model.specs.Record.{Item, Drawn, Record}
use Rattle.world_model.specs.Safe.{IsSound, WasDrawn}
use Rattle.world_model.specs.World.{is_at, same_id}
use Rattle.world_model.proofs.CellLaws.{same_id_self, same_id_true}
use Rattle.model_examples.specs.Openings.{Holding, cells_of}
use Rattle.model_examples.proofs.Searches.{blob, got_true}
use Rattle.model_examples.proofs.TestLemmas.{all_has, all_pass}

-- a listed cell holds the blob under the id
pub record IsListed (hs : List Holding) (id : BlobId) (b : Blob) : Type 0 where
  pub holding : Holding
  pub has : Has hs holding
  pub id_is : holding.id ≡ id
  pub cell : holding.cell ≡ Cell.Held b

at_id : (node partition : ℕ) (id : BlobId) (n p : ℕ) (other : BlobId) → is_at node partition id n p other ≡ true → other ≡ id
at_id node partition id n p other a = same_id_true other id (and_right _ _ a)

is_listed : (hs : List Holding) (n p : ℕ) (id : BlobId) (b : Blob) → cells_of hs n p id ≡ Cell.Held b → IsListed hs id b
is_listed [] n p id b e = absurd cc
is_listed (h ∷ rest) n p id b e = here (is_listed rest n p id b) (is_at h.node h.partition h.id n p id) refl e
  where
    here : (cells_of rest n p id ≡ Cell.Held b → IsListed rest id b) → (at : Bool) → is_at h.node h.partition h.id n p id ≡ at → cond at h.cell (cells_of rest n p id) ≡ Cell.Held b → IsListed (h ∷ rest) id b
    here later true a q = record { holding = h; has = inl refl; id_is = sym (at_id h.node h.partition h.id n p id a); cell = q }
    here later false a q = let l : IsListed rest id b = later q in record { holding = l.holding; has = inr l.has; id_is = l.id_is; cell = l.cell }

-- ---- held cells of one id are equal

abbrev pub agree_cells : Cell → Cell → Bool
agree_cells (Cell.Held a) (Cell.Held b) = is_some (blob a b)
agree_cells _ _ = true

abbrev pub agree : Holding → Holding → Bool
agree g h = not (same_id g.id h.id) || agree_cells g.cell h.cell

abbrev pub all_agree : List Holding → Bool
all_agree hs = all_pass (λ g. all_pass (agree g) hs) hs

pub agreed : (hs : List Holding) → all_agree hs ≡ true → IsSound (cells_of hs)
agreed hs t n p m q id b c x y =
    let g : IsListed hs id b = is_listed hs n p id b x in
    let h : IsListed hs id c = is_listed hs m q id c y in
    let u : all_pass (agree g.holding) hs ≡ true = all_has (λ g. all_pass (agree g) hs) hs g.holding t g.has in
    let v : agree g.holding h.holding ≡ true = all_has (agree g.holding) hs h.holding u h.has in
    let s : same_id g.holding.id h.holding.id ≡ true = rw (g.id_is, h.id_is) (same_id_self id) in
    let w : agree_cells g.holding.cell h.holding.cell ≡ true = ap (λ (b : Bool). not b || agree_cells g.holding.cell h.holding.cell) (sym s) ∙ v in
    got_true (blob b c) (ap (λ (x : Cell). agree_cells x (Cell.Held c)) (sym g.cell) ∙ ap (λ (x : Cell). agree_cells g.holding.cell x) (sym h.cell) ∙ w)

-- ---- an id is named nowhere

abbrev pub lists_none : BlobId → BlobId → Cell → Bool
lists_none id top (Cell.Held b) = all_pass (λ piece. not (same_id piece id)) (listed top b)
lists_none id top _ = true

abbrev pub is_new : BlobId → Holding → Bool
is_new id h = not (same_id h.id id) && lists_none id h.id h.cell

pub absent : (hs : List Holding) (id : BlobId) → all_pass (is_new id) hs ≡ true → (n p : ℕ) → cells_of hs n p id ≡ Cell.Absent
absent [] id t n p = refl
absent (h ∷ rest) id t n p = here (absent rest id (and_right _ _ t) n p) (is_at h.node h.partition h.id n p id) refl
  where
    here : cells_of rest n p id ≡ Cell.Absent → (at : Bool) → is_at h.node h.partition h.id n p id ≡ at → cond at h.cell (cells_of rest n p id) ≡ Cell.Absent
    here later true a =
        let e : id ≡ h.id = at_id h.node h.partition h.id n p id a in
        let s : same_id h.id id ≡ true = rw e (same_id_self h.id) in
        let f : not (same_id h.id id) ≡ true = and_left _ _ (and_left _ _ t) in
        absurd cc
    here later false a = later

pub unlisted : (hs : List Holding) (id : BlobId) → all_pass (is_new id) hs ≡ true → (n p : ℕ) (top : BlobId) (held : Blob) → cells_of hs n p top ≡ Cell.Held held → Has (listed top held) id → ⊥
unlisted hs id t n p top held e m =
    let l : IsListed hs top held = is_listed hs n p top held e in
    let u : lists_none id l.holding.id l.holding.cell ≡ true = and_right (not (same_id l.holding.id id)) (lists_none id l.holding.id l.holding.cell) (all_has (is_new id) hs l.holding t l.has) in
    let v : lists_none id top (Cell.Held held) ≡ true = ap (λ (x : BlobId). lists_none id x (Cell.Held held)) (sym l.id_is) ∙ (ap (λ (x : Cell). lists_none id l.holding.id x) (sym l.cell) ∙ u) in
    let q : not (same_id id id) ≡ true = all_has (λ piece. not (same_id piece id)) (listed top held) id v m in
    let f : not (same_id id id) ≡ false = ap not (same_id_self id) in
    cc

abbrev pub draws_new : List Holding → Item → Bool
draws_new hs (Drawn operation part attempt id b) = all_pass (is_new id) hs
draws_new hs _ = true

pub drawn_is_new : (hs : List Holding) (r : Record) (id : BlobId) → all_pass (draws_new hs) r ≡ true → WasDrawn r id → all_pass (is_new id) hs ≡ true
drawn_is_new hs r id t w = all_has (draws_new hs) r (Drawn w.0 w.1 w.2 id w.3) t w.4
