-- The woven record goes on by one item of the session, or by one call.
use Rattle.std.proofs.Common.{◌≡◌, ℕ, ◌<◌, ◌≤◌, ◌==◌, Bool, true, false, cond, List, [], ◌∷◌, ◌++◌, length, map, Option, Some, None, refl, sym, ap, ◌∙◌, subst, arith, append-nil}
use Rattle.std.proofs.lemmas.Bool.Decides.{nat_tests}
use Rattle.blob_id.specs.declared.id.BlobId.{BlobId}
use Rattle.cell_model.specs.declared.cell.Cell.{Cell}
use Rattle.cell_model.specs.Cells.{join}
use Rattle.world_model.specs.Record.{Item, Marked, Drawn, Aimed, Took, Given, Withheld, Decided, Record}
use Rattle.world_model.specs.World.{Cells, World, world, after, Allowed, Run}
use Rattle.world_model.specs.declared.history.HistoryMark.{HistoryMark}
use Rattle.world_model.specs.declared.history.HistoryMark.TheVariants.{Drew}
use Rattle.world_model.specs.declared.step.Called.{Called}
use Rattle.world_model.specs.declared.step.Did.{Did}
use Rattle.world_model.specs.declared.step.Event.{Event}
use Rattle.world_model.specs.declared.step.Step.{Step}
use Rattle.world_model.specs.Ordered.{marks_of}
use Rattle.world_model.specs.Told.{Placed, IsRising, unplaced, given_by, items_of, placed_at, weave, AllWithin, told, is_session, AllSession, OnlySession, place}
use Rattle.world_model.proofs.CellLaws.{number_true, same_number}

not_same : (a b : ℕ) → b < a → (a == b) ≡ false
not_same a b h = grind (arith, nat_tests)

-- what stands behind more calls isn't there yet
skipped : (p : Placed) (placed : List Placed) (calls : List Called) → length calls < p.calls → weave (p ∷ placed) calls ≡ weave placed calls
skipped p placed [] h = ap (λ (b : Bool). cond b (p.item ∷ placed_at 0 placed) (placed_at 0 placed)) (not_same p.calls 0 h)
skipped p placed (call ∷ calls) h =
    ap (λ (b : Bool). cond b (p.item ∷ placed_at (length (call ∷ calls)) placed) (placed_at (length (call ∷ calls)) placed) ++ (items_of call ++ weave (p ∷ placed) calls)) (not_same p.calls (length (call ∷ calls)) h)
    ∙ ap (λ (r : Record). placed_at (length (call ∷ calls)) placed ++ (items_of call ++ r)) (skipped p placed calls (omega arith))

-- one more item of the session
pub weave_item : (item : Item) (placed : List Placed) (calls : List Called) → weave (record { item = item; calls = length calls } ∷ placed) calls ≡ item ∷ weave placed calls
weave_item item placed [] = refl
weave_item item placed (call ∷ calls) =
    ap (λ (b : Bool). cond b (item ∷ placed_at (length (call ∷ calls)) placed) (placed_at (length (call ∷ calls)) placed) ++ (items_of call ++ weave (record { item = item; calls = length (call ∷ calls) } ∷ placed) calls)) (same_number (length (call ∷ calls)))
    ∙ ap (λ (r : Record). item ∷ (placed_at (length (call ∷ calls)) placed ++ (items_of call ++ r))) (skipped (record { item = item; calls = length (call ∷ calls) }) placed calls (omega arith))

none_behind : (placed : List Placed) (n m : ℕ) → AllWithin placed n → n < m → placed_at m placed ≡ []
none_behind [] n m h l = refl
none_behind (p ∷ placed) n m h l =
    let f : (p.calls == m) ≡ false = (let w = h.0 in grind (arith, nat_tests)) in
    ap (λ (b : Bool). cond b (p.item ∷ placed_at m placed) (placed_at m placed)) f ∙ none_behind placed n m h.1 l

-- one more call
pub weave_call : (call : Called) (placed : List Placed) (calls : List Called) → AllWithin placed (length calls) → weave placed (call ∷ calls) ≡ items_of call ++ weave placed calls
weave_call call placed calls h = ap (λ (r : Record). r ++ (items_of call ++ weave placed calls)) (none_behind placed (length calls) (length (call ∷ calls)) h (omega arith))

-- the session's items change nothing in the world

join_absent : (c : Cell) → join c Cell.Absent ≡ c
join_absent Cell.Absent = refl
join_absent (Cell.Held b) = refl
join_absent Cell.Gone = refl

same_cells : (w : World) → (λ (n p : ℕ) (id : BlobId). join (w.cells n p id) Cell.Absent) ≡ w.cells
same_cells w = λ i n p id. join_absent (w.cells n p id) i

session_leaves : (w : World) (item : Item) → is_session item ≡ true → after w item ≡ w
session_leaves w (Marked m) h = ap (λ (c : Cells). record w { cells = c }) (same_cells w)
session_leaves w (Drawn o p t id b) h = ap (λ (c : Cells). record w { cells = c }) (same_cells w)
session_leaves w (Decided o out) h = ap (λ (c : Cells). record w { cells = c }) (same_cells w)
session_leaves w (Withheld n f) h = ap (λ (c : Cells). record w { cells = c }) (same_cells w)
session_leaves w (Aimed c p t) h = ap (λ (c : Cells). record w { cells = c }) (same_cells w)
session_leaves w (Took s) h = absurd cc
session_leaves w (Given e) h = absurd cc

session_allowed : (w : World) (item : Item) → is_session item ≡ true → Allowed w item
session_allowed w (Marked m) h = tt
session_allowed w (Drawn o p t id b) h = tt
session_allowed w (Decided o out) h = tt
session_allowed w (Withheld n f) h = tt
session_allowed w (Aimed c p t) h = tt
session_allowed w (Took s) h = absurd cc
session_allowed w (Given e) h = absurd cc

placed_session : (n : ℕ) (placed : List Placed) → OnlySession placed → AllSession (placed_at n placed)
placed_session n [] h = tt
placed_session n (p ∷ placed) h = go (p.calls == n) (placed_session n placed h.1)
  where
    go : (b : Bool) → AllSession (placed_at n placed) → AllSession (cond b (p.item ∷ placed_at n placed) (placed_at n placed))
    go true ih = (h.0, ih)
    go false ih = ih

session_world : (opening : Cells) (items before : Record) → AllSession items → world opening (items ++ before) ≡ world opening before
session_world opening [] before h = refl
session_world opening (item ∷ items) before h = session_leaves (world opening (items ++ before)) item h.0 ∙ session_world opening items before h.1

session_run : (opening : Cells) (items before : Record) → AllSession items → Run opening before → Run opening (items ++ before)
session_run opening [] before h r = r
session_run opening (item ∷ items) before h r = (session_run opening items before h.1 r, session_allowed (world opening (items ++ before)) item h.0)

-- the same items over worlds that are the same
run_over : (opening : Cells) (items a b : Record) → world opening a ≡ world opening b → (world opening (items ++ a) ≡ world opening (items ++ b)) × (Run opening a → Run opening (items ++ b) → Run opening (items ++ a))
run_over opening [] a b e = (e, λ r s. r)
run_over opening (item ∷ items) a b e =
    let ih = run_over opening items a b e in
    (ap (λ (w : World). after w item) ih.0, λ r s. (ih.1 r s.0, subst (λ (w : World). Allowed w item) (sym ih.0) s.1))

run_before : (opening : Cells) (items before : Record) → Run opening (items ++ before) → Run opening before
run_before opening [] before r = r
run_before opening (item ∷ items) before r = run_before opening items before r.0

woven : (opening : Cells) (placed : List Placed) (calls : List Called) → OnlySession placed → (world opening (weave placed calls) ≡ world opening (told calls)) × (Run opening (told calls) → Run opening (weave placed calls))
woven opening placed [] h =
    let s = placed_session 0 placed h in
    let e : placed_at 0 placed ++ [] ≡ placed_at 0 placed = append-nil (placed_at 0 placed) in
    (ap (λ (r : Record). world opening r) (sym e) ∙ session_world opening (placed_at 0 placed) [] s, λ r. subst (λ (w : Record). Run opening w) e (session_run opening (placed_at 0 placed) [] s r))
woven opening placed (call ∷ calls) h =
    let ih = woven opening placed calls h in
    let s = placed_session (length (call ∷ calls)) placed h in
    let over = run_over opening (items_of call) (weave placed calls) (told calls) ih.0 in (
      session_world opening (placed_at (length (call ∷ calls)) placed) (items_of call ++ weave placed calls) s ∙ over.0,
      λ r. session_run opening (placed_at (length (call ∷ calls)) placed) (items_of call ++ weave placed calls) s (over.1 (ih.1 (run_before opening (items_of call) (told calls) r)) r),
    )

-- what the network told is a run exactly where the woven record is: from the first to the second
pub woven_runs : (opening : Cells) (placed : List Placed) (calls : List Called) → OnlySession placed → Run opening (told calls) → Run opening (weave placed calls)
woven_runs opening placed calls h r = (woven opening placed calls h).1 r

-- and both lead to one world
pub woven_world : (opening : Cells) (placed : List Placed) (calls : List Called) → OnlySession placed → world opening (weave placed calls) ≡ world opening (told calls)
woven_world opening placed calls h = (woven opening placed calls h).0

-- several items of the session
pub weave_items : (items : Record) (placed : List Placed) (calls : List Called) → weave (place (length calls) items ++ placed) calls ≡ items ++ weave placed calls
weave_items [] placed calls = refl
weave_items (item ∷ items) placed calls = weave_item item (place (length calls) items ++ placed) calls ∙ ap (λ (r : Record). item ∷ r) (weave_items items placed calls)

pub within_more : (placed : List Placed) (n m : ℕ) → n ≤ m → AllWithin placed n → AllWithin placed m
within_more [] n m l h = tt
within_more (p ∷ placed) n m l h = ((let w = h.0 in omega (arith, w)), within_more placed n m l h.1)

pub place_within : (items : Record) (placed : List Placed) (n : ℕ) → AllWithin placed n → AllWithin (place n items ++ placed) n
place_within [] placed n h = h
place_within (item ∷ items) placed n h = (omega arith, place_within items placed n h)

pub place_session : (items : Record) (placed : List Placed) (n : ℕ) → AllSession items → OnlySession placed → OnlySession (place n items ++ placed)
place_session [] placed n d h = h
place_session (item ∷ items) placed n d h = (d.0, place_session items placed n d.1 h)

-- ---- the marks of the woven record

pub marks_cons : (item : Item) (r q : Record) → marks_of r ≡ marks_of q → marks_of (item ∷ r) ≡ marks_of (item ∷ q)
marks_cons (Marked mark) r q e = ap (λ (l : List HistoryMark). mark ∷ l) e
marks_cons (Drawn o p t id b) r q e = ap (λ (l : List HistoryMark). Drew o id ∷ l) e
marks_cons (Aimed c p t) r q e = e
marks_cons (Took s) r q e = e
marks_cons (Given v) r q e = e
marks_cons (Withheld n f) r q e = e
marks_cons (Decided o out) r q e = e

marks_took : (steps : List Step) (r : Record) → marks_of (map Took steps ++ r) ≡ marks_of r
marks_took [] r = refl
marks_took (step ∷ steps) r = marks_took steps r

-- what a call told has no marks
marks_call : (call : Called) (r : Record) → marks_of (items_of call ++ r) ≡ marks_of r
marks_call call r = go call.did
  where
    go : (did : Did) → marks_of ((given_by did ++ map Took call.steps) ++ r) ≡ marks_of r
    go (Did.Delivered event) = marks_took call.steps r
    go _ = marks_took call.steps r

marks_none : (calls : List Called) → marks_of (weave [] calls) ≡ []
marks_none [] = refl
marks_none (call ∷ calls) = marks_call call (weave [] calls) ∙ marks_none calls

-- one more placed item, whose count is the greatest
marks_more : (p : Placed) (placed : List Placed) (calls : List Called) → AllWithin placed p.calls → p.calls ≤ length calls → ((cs : List Called) → AllWithin placed (length cs) → marks_of (weave placed cs) ≡ marks_of (unplaced placed))
    → marks_of (weave (p ∷ placed) calls) ≡ marks_of (p.item ∷ unplaced placed)
marks_more p placed [] w l ih =
    let none : p.calls ≡ 0 = omega arith in
    ap (λ (n : ℕ). marks_of (weave (record { item = p.item; calls = n } ∷ placed) [])) none
    ∙ (ap marks_of (weave_item p.item placed []) ∙ marks_cons p.item (weave placed []) (unplaced placed) (ih [] (subst (λ (n : ℕ). AllWithin placed n) none w)))
marks_more p placed (call ∷ calls) w l ih = go (p.calls == length (call ∷ calls)) refl (λ m. marks_more p placed calls w m ih)
  where
    go : (b : Bool) → (p.calls == length (call ∷ calls)) ≡ b → (p.calls ≤ length calls → marks_of (weave (p ∷ placed) calls) ≡ marks_of (p.item ∷ unplaced placed))
        → marks_of (weave (p ∷ placed) (call ∷ calls)) ≡ marks_of (p.item ∷ unplaced placed)
    go true e rest =
        let same : p.calls ≡ length (call ∷ calls) = number_true p.calls (length (call ∷ calls)) e in
        ap (λ (n : ℕ). marks_of (weave (record { item = p.item; calls = n } ∷ placed) (call ∷ calls))) same
        ∙ (ap marks_of (weave_item p.item placed (call ∷ calls))
        ∙ marks_cons p.item (weave placed (call ∷ calls)) (unplaced placed) (ih (call ∷ calls) (subst (λ (n : ℕ). AllWithin placed n) same w)))
    go false e rest =
        let less : p.calls ≤ length calls = grind (arith, nat_tests) in
        ap marks_of (weave_call call (p ∷ placed) calls (less, within_more placed p.calls (length calls) less w)) ∙ (marks_call call (weave (p ∷ placed) calls) ∙ rest less)

-- The marks of the woven record are those that the session placed, in their order, where the counts never fall.
pub woven_marks : (placed : List Placed) (calls : List Called) → IsRising placed → AllWithin placed (length calls) → marks_of (weave placed calls) ≡ marks_of (unplaced placed)
woven_marks [] calls r w = marks_none calls
woven_marks (p ∷ placed) calls r w = marks_more p placed calls r.0 w.0 (λ cs v. woven_marks placed cs r.1 v)

-- items that are placed now keep the counts from falling
pub place_rising : (items : Record) (placed : List Placed) (n : ℕ) → AllWithin placed n → IsRising placed → IsRising (place n items ++ placed)
place_rising [] placed n w r = r
place_rising (item ∷ items) placed n w r = (place_within items placed n w, place_rising items placed n w r)
