-- Worlds along a record.
use Rattle.std.proofs.Common.{◌≡◌, ℕ, ◌+◌, ◌≤◌, arith, ◌==◌, ◌⊎◌, Bool, true, false, cond, List, [], ◌∷◌, drop, Option, Some, None, refl, sym, ap, subst, inl, inr}
use Rattle.blob_id.specs.declared.id.BlobId.{BlobId}
use Rattle.cell_model.specs.declared.ask.Reply.{Reply}
use Rattle.req_frame.specs.declared.frame.Body.{Body}
use Rattle.req_frame.specs.declared.frame.Frame.{Frame}
use Rattle.world_model.specs.declared.step.Step.TheVariants.{Exec, Torn, Hand, Now, Cut, Stop}
use Rattle.world_model.specs.declared.step.Event.{Event}
use Rattle.world_model.specs.Lists.{Has, Earlier, numbered}
use Rattle.cell_model.specs.Cells.{AtMost}
use Rattle.world_model.specs.Frames.{frame_in}
use Rattle.world_model.specs.Record.{Item, Marked, Took, Given, Record, is_line, turns_in}
use Rattle.world_model.specs.World.{Cells, World, Request, Answered, Made, Reply_made, Broken_made, Now_made, Call, world, replies_after, answered, waiting_after, made_by, Allowed, Run, MayRun, Shows, IsNext}
use Rattle.world_model.proofs.ListLaws.{numbered_has, has_append}
use Rattle.world_model.proofs.CellLaws.{at_most_self, at_most_trans, at_most_join, number_true}

-- a cell only rises
pub rises : (opening : Cells) (older record' : Record) (n p : ℕ) (id : BlobId) → Earlier older record'
    → AtMost ((world opening older).cells n p id) ((world opening record').cells n p id)
rises opening older [] n p id h = subst (λ (r : Record). AtMost ((world opening r).cells n p id) ((world opening []).cells n p id)) (sym h) (at_most_self _)
rises opening older (item ∷ before) n p id h = elim h [
  | inl e ↦ subst (λ (r : Record). AtMost ((world opening r).cells n p id) ((world opening (item ∷ before)).cells n p id)) (sym e) (at_most_self _)
  | inr t ↦ at_most_trans _ _ _ (rises opening older before n p id t) (at_most_join _ _)
]

-- a run's beginning is a run
pub run_earlier : (opening : Cells) (record' older : Record) → Run opening record' → Earlier older record' → Run opening older
run_earlier opening [] older r h = subst (λ (w : Record). Run opening w) (sym h) r
run_earlier opening (item ∷ before) older r h = elim h [
  | inl e ↦ subst (λ (w : Record). Run opening w) (sym e) r
  | inr t ↦ run_earlier opening before older r.0 t
]

pub allowed_at : (opening : Cells) (record' : Record) (item : Item) (older : Record) → Run opening record' → Earlier (item ∷ older) record' → Allowed (world opening older) item
allowed_at opening record' item older r h = (run_earlier opening record' (item ∷ older) r h).1

-- an answer is a fault, or was given when its request was run
pub record RanAt (opening : Cells) (record' : Record) (answer : Answered) : Type 0 where
  pub then : Record
  pub send : ℕ
  pub call : Call
  pub at : Earlier (Took (Exec send answer.reply) ∷ then) record'
  pub sent : numbered (world opening then).sent send ≡ Some answer.request
  pub may : MayRun (world opening then) send call answer.reply

answered_new : (request : Option Request) (reply : Reply) (replies : List Answered) (answer : Answered) → Has (answered request reply replies) answer
    → Has replies answer ⊎ (request ≡ Some answer.request) × (reply ≡ answer.reply)
answered_new None reply replies answer h = inl h
answered_new (Some request) reply replies answer h = elim h [
  | inl e ↦ inr (ap (λ (a : Answered). Some a.request) (sym e), ap (λ (a : Answered). a.reply) (sym e))
  | inr t ↦ inl t
]

pub record Ran (w : World) (item : Item) (answer : Answered) : Type 0 where
  pub send : ℕ
  pub is : item ≡ Took (Exec send answer.reply)
  pub sent : numbered w.sent send ≡ Some answer.request

pub answer_new : (w : World) (item : Item) (answer : Answered) → Has (replies_after w item) answer
    → Has w.replies answer ⊎ (Ran w item answer ⊎ answer.reply ≡ Reply.Fault)
answer_new w (Took (Exec send reply)) answer h = elim (answered_new (numbered w.sent send) reply w.replies answer h) [
  | inl a ↦ inl a
  | inr r ↦ inr (inl (record { send = send; is = ap (λ (x : Reply). Took (Exec send x)) r.1; sent = r.0 }))
]
answer_new w (Took (Torn send)) answer h = elim (answered_new (numbered w.sent send) Reply.Fault w.replies answer h) [
  | inl a ↦ inl a
  | inr r ↦ inr (inr (sym r.1))
]
answer_new w _ answer h = inl h

pub ran_at : (opening : Cells) (record' : Record) (answer : Answered) → Run opening record' → Has (world opening record').replies answer
    → RanAt opening record' answer ⊎ answer.reply ≡ Reply.Fault
ran_at opening [] answer r h = absurd h
ran_at opening (item ∷ before) answer r h = elim (answer_new (world opening before) item answer h) [
  | inl old ↦ elim (ran_at opening before answer r.0 old) [
    | inl a ↦ inl (record { then = a.then; send = a.send; call = a.call; at = inr a.at; sent = a.sent; may = a.may })
    | inr f ↦ inr f
  ]
  | inr new ↦ elim new [
    | inl ran ↦ inl (let al : Allowed (world opening before) (Took (Exec ran.send answer.reply)) = subst (λ i. Allowed (world opening before) i) ran.is r.1 in
        record { then = before; send = ran.send; call = al.0; at = inl (ap (λ (i : Item). i ∷ before) (sym ran.is)); sent = ran.sent; may = al.1 })
    | inr f ↦ inr f
  ]
]

-- what waits to be given was answered to the router
waiting_drop : (xs : List Made) (m : Made) → Has (drop 1 xs) m → Has xs m
waiting_drop [] m h = h
waiting_drop (x ∷ xs) m h = inr h

made_answer : (o : Option Answered) (answer : Answered) → Has (made_by o) (Reply_made answer) → (o ≡ Some answer) × (answer.request.from ≡ 0)
made_answer None answer h = absurd h
made_answer (Some a) answer h = go (a.request.from == 0) refl h
  where
    go : (b : Bool) → (a.request.from == 0) ≡ b → Has (cond b (Reply_made a ∷ []) []) (Reply_made answer) → (Some a ≡ Some answer) × (answer.request.from ≡ 0)
    go true e k = elim k [
      | inl q ↦ (let same : a ≡ answer = cc in (ap Some same, subst (λ (x : Answered). x.request.from ≡ 0) same (number_true a.request.from 0 e)))
      | inr z ↦ absurd z
    ]
    go false e k = absurd k

waiting_new : (w : World) (item : Item) (answer : Answered) → Has (waiting_after w item) (Reply_made answer)
    → Has w.waiting (Reply_made answer) ⊎ Has w.replies answer × (answer.request.from ≡ 0)
waiting_new w (Took (Hand reply)) answer h = elim (has_append w.waiting (made_by (numbered w.replies reply)) (Reply_made answer) h) [
  | inl a ↦ inl a
  | inr b ↦ (let m = made_answer (numbered w.replies reply) answer b in inr (numbered_has w.replies reply answer m.0, m.1))
]
waiting_new w (Took (Now ms)) answer h = elim (has_append w.waiting (Now_made ms ∷ []) (Reply_made answer) h) [
  | inl a ↦ inl a
  | inr b ↦ elim b [ inl e ↦ absurd cc | inr z ↦ absurd z ]
]
waiting_new w (Took (Cut node)) answer h = elim (has_append w.waiting (Broken_made node ∷ []) (Reply_made answer) h) [
  | inl a ↦ inl a
  | inr b ↦ elim b [ inl e ↦ absurd cc | inr z ↦ absurd z ]
]
waiting_new w (Took (Stop node)) answer h = elim (has_append w.waiting (Broken_made node ∷ []) (Reply_made answer) h) [
  | inl a ↦ inl a
  | inr b ↦ elim b [ inl e ↦ absurd cc | inr z ↦ absurd z ]
]
waiting_new w (Given Event.Quiet) answer h = inl h
waiting_new w (Given (Event.Reply node frame)) answer h = inl (waiting_drop w.waiting (Reply_made answer) h)
waiting_new w (Given (Event.Broken node)) answer h = inl (waiting_drop w.waiting (Reply_made answer) h)
waiting_new w (Given (Event.Now ms)) answer h = inl (waiting_drop w.waiting (Reply_made answer) h)
waiting_new w _ answer h = inl h

replies_more : (w : World) (item : Item) (answer : Answered) → Has w.replies answer → Has (replies_after w item) answer
replies_more w (Took (Exec send reply)) answer h = go (numbered w.sent send)
  where
    go : (o : Option Request) → Has (answered o reply w.replies) answer
    go None = h
    go (Some r) = inr h
replies_more w (Took (Torn send)) answer h = go (numbered w.sent send)
  where
    go : (o : Option Request) → Has (answered o Reply.Fault w.replies) answer
    go None = h
    go (Some r) = inr h
replies_more w _ answer h = h

pub waiting_answered : (opening : Cells) (record' : Record) (answer : Answered) → Has (world opening record').waiting (Reply_made answer)
    → Has (world opening record').replies answer × (answer.request.from ≡ 0)
waiting_answered opening [] answer h = absurd h
waiting_answered opening (item ∷ before) answer h = elim (waiting_new (world opening before) item answer h) [
  | inl old ↦ (let r = waiting_answered opening before answer old in (replies_more (world opening before) item answer r.0, r.1))
  | inr new ↦ (replies_more (world opening before) item answer new.0, new.1)
]

-- an event that brings a reply shows an answer to the router
pub record ShownBy (opening : Cells) (before : Record) (node : ℕ) (frame : List ℕ) : Type 0 where
  pub answer : Answered
  pub given : Has (world opening before).replies answer
  pub router : answer.request.from ≡ 0
  pub asked : Frame
  pub sent : answer.request.frame ≡ Some asked
  pub place : node ≡ answer.request.node
  pub reads : frame_in frame ≡ Some (record { correlation = asked.correlation; partition = asked.partition; body = Body.Answer answer.reply })

next_shows : (waiting : List Made) (node : ℕ) (frame : List ℕ) → IsNext waiting (Event.Reply node frame) → (answer : Answered) × Has waiting (Reply_made answer) × Shows (Reply_made answer) (Event.Reply node frame)
next_shows [] node frame h = absurd h
next_shows (Reply_made answer ∷ rest) node frame h = (answer, inl refl, h)
next_shows (Broken_made m ∷ rest) node frame h = absurd h
next_shows (Now_made m ∷ rest) node frame h = absurd h

pub shown_by : (opening : Cells) (before : Record) (node : ℕ) (frame : List ℕ) → Allowed (world opening before) (Given (Event.Reply node frame)) → ShownBy opening before node frame
shown_by opening before node frame h =
    let s = next_shows (world opening before).waiting node frame h in
    let a = waiting_answered opening before s.0 s.1 in
    record { answer = s.0; given = a.0; router = a.1; asked = s.2.1.0; sent = s.2.1.1; place = s.2.0; reads = s.2.1.2 }

-- there are ever more events and script lines
turns_more : (item : Item) (before : Record) → turns_in before ≤ turns_in (item ∷ before)
turns_more (Given event) before = omega arith
turns_more (Marked mark) before = go (is_line mark)
  where
    go : (b : Bool) → turns_in before ≤ cond b (1 + turns_in before) (turns_in before)
    go true = omega arith
    go false = omega arith
turns_more _ before = omega arith

pub turns_rise : (older record' : Record) → Earlier older record' → turns_in older ≤ turns_in record'
turns_rise older [] h = subst (λ (r : Record). turns_in r ≤ 0) (sym h) (omega arith)
turns_rise older (item ∷ before) h = elim h [
  | inl e ↦ subst (λ (r : Record). turns_in older ≤ turns_in r) e (omega arith)
  | inr t ↦ omega (arith, turns_rise older before t, turns_more item before)
]
