-- Where the cells of a run come from: from the opening, or from a request that the router sent.
use Rattle.std.proofs.Common.{◌≡◌, ℕ, ◌==◌, ◌⊎◌, Bool, true, false, cond, ◌&&◌, not, List, [], ◌∷◌, Option, Some, None, refl, sym, ap, ◌∙◌, subst, inl, inr, IsTrue, slice_get}
use Rattle.std.proofs.lemmas.List.Elements.{All-get_or}
use Rattle.std.proofs.lemmas.Option.{slice_get_cases}
use Rattle.std.specs.List.{list_any, All}
use Rattle.blob_id.specs.declared.id.BlobId.{BlobId}
use Rattle.cell_model.specs.declared.cell.Cell.{Cell}
use Rattle.cell_model.specs.declared.cell.Cell.TheVariants.{Absent, Held, Gone}
use Rattle.cell_model.specs.declared.ask.Ask.{Ask}
use Rattle.cell_model.specs.declared.ask.Reply.{Reply}
use Rattle.req_frame.specs.declared.frame.Body.{Body}
use Rattle.req_frame.specs.declared.frame.Frame.{Frame}
use Rattle.world_model.specs.declared.step.Step.TheVariants.{Send, Exec, Torn, Restart, Merge}
use Rattle.world_model.specs.Lists.{Has, Earlier, numbered}
use Rattle.cell_model.specs.Asks.{id_of, brought, is_refusal, Answers}
use Rattle.cell_model.specs.Pages.{SaysGone, IsEntryOf, PagesCells}
use Rattle.find_token.specs.declared.page.Entry.{Entry}
use Rattle.find_token.specs.declared.page.Page.{Page}
use Rattle.world_model.specs.Frames.{frame_in, ask_of}
use Rattle.world_model.specs.Record.{Item, Took, Record}
use Rattle.world_model.specs.World.{same_id, Cells, Request, Answered, Change, Call, world, call_at, call_of, call_in, call_from, is_at, is_call_at, carried, carried_cell, carried_entry, carried_page, carried_to, change_of, arriving, arriving_call, arriving_change, doubt_call, doubts_after, replies_after, Allowed, Run, MayRun, MayReply, is_pull}
use Rattle.world_model.proofs.ListLaws.{numbered_has}
use Rattle.world_model.proofs.CellLaws.{join_is, same_id_true, answers_from}
use Rattle.quorum_op.proofs.CountLaws.{and_right}
use Rattle.world_model.proofs.WorldLaws.{answer_new, allowed_at}

pub some_same : {A : Type 0} (a b : A) → Some a ≡ Some b → a ≡ b
some_same a b h = cc

-- where a request was sent
pub record Posted (record' : Record) (request : Request) : Type 0 where
  pub bytes : List ℕ
  pub then : Record
  pub at : Earlier (Took (Send request.from request.node bytes) ∷ then) record'
  pub reads : frame_in bytes ≡ request.frame

pub posted : (opening : Cells) (record' : Record) (request : Request) → Has (world opening record').sent request → Posted record' request
posted opening [] request h = absurd h
posted opening (Took (Send from node bytes) ∷ before) request h = elim h [
  | inl e ↦ record {
    bytes = bytes;
    then = before;
    at = inl (ap (λ (r : Request). Took (Send r.from r.node bytes) ∷ before) e);
    reads = sym (ap (λ (r : Request). r.frame) e);
  }
  | inr t ↦ (let p = posted opening before request t in record { bytes = p.bytes; then = p.then; at = inr p.at; reads = p.reads })
]
posted opening (item ∷ before) request h = let p = posted opening before request h in record { bytes = p.bytes; then = p.then; at = inr p.at; reads = p.reads }

-- the parts of a call
pub record CallParts (o : Option Request) (call : Call) : Type 0 where
  pub request : Request
  pub f : Frame
  pub is : o ≡ Some request
  pub frame : request.frame ≡ Some f
  pub asks : ask_of f.body ≡ Some call.ask
  pub node : call.node ≡ request.node
  pub partition : call.partition ≡ f.partition

pub call_parts : (o : Option Request) (call : Call) → call_of o ≡ Some call → CallParts o call
call_parts None call h = absurd cc
call_parts (Some request) call h = in_frame request.frame refl h
  where
    from_ask : (f : Frame) (o : Option Ask) → request.frame ≡ Some f → ask_of f.body ≡ o → call_from request.node f.partition o ≡ Some call → CallParts (Some request) call
    from_ask f None e a h = absurd cc
    from_ask f (Some ask) e a h =
        let same : record { node = request.node; partition = f.partition; ask = ask } ≡ call = some_same _ _ h in
        record {
          request = request;
          f = f;
          is = refl;
          frame = e;
          asks = a ∙ ap (λ (c : Call). Some c.ask) same;
          node = sym (ap (λ (c : Call). c.node) same);
          partition = sym (ap (λ (c : Call). c.partition) same);
        }

    in_frame : (o : Option Frame) → request.frame ≡ o → call_in request.node o ≡ Some call → CallParts (Some request) call
    in_frame None e h = absurd cc
    in_frame (Some f) e h = from_ask f (ask_of f.body) e refl h

-- the router sent a request with this body
pub record SentBody (record' : Record) (body : Body) : Type 0 where
  pub node : ℕ
  pub bytes : List ℕ
  pub f : Frame
  pub then : Record
  pub at : Earlier (Took (Send 0 node bytes) ∷ then) record'
  pub reads : frame_in bytes ≡ Some f
  pub is : f.body ≡ body

-- where a cell of an id may come from
abbrev pub Sourced : Cells → Record → BlobId → Cell → Type 0
Sourced opening record' id Absent = Unit {0}
Sourced opening record' id (Held b) = ((n : ℕ) × (p : ℕ) × (opening n p id ≡ Held b)) ⊎ SentBody record' (Body.Put id b)
Sourced opening record' id Gone = ((n : ℕ) × (p : ℕ) × (opening n p id ≡ Gone)) ⊎ ((at : ℕ) × SentBody record' (Body.Delete id at))

sent_more : (record' : Record) (item : Item) (body : Body) → SentBody record' body → SentBody (item ∷ record') body
sent_more record' item body s = record { node = s.node; bytes = s.bytes; f = s.f; then = s.then; at = inr s.at; reads = s.reads; is = s.is }

sourced_more : (opening : Cells) (record' : Record) (item : Item) (id : BlobId) (c : Cell) → Sourced opening record' id c → Sourced opening (item ∷ record') id c
sourced_more opening record' item id Absent h = tt
sourced_more opening record' item id (Held b) h = elim h [ inl o ↦ inl o | inr s ↦ inr (sent_more record' item (Body.Put id b) s) ]
sourced_more opening record' item id Gone h = elim h [ inl o ↦ inl o | inr s ↦ inr (s.0, sent_more record' item (Body.Delete id s.0) s.1) ]

opening_sourced : (opening : Cells) (n p : ℕ) (id : BlobId) (c : Cell) → opening n p id ≡ c → Sourced opening [] id c
opening_sourced opening n p id Absent h = tt
opening_sourced opening n p id (Held b) h = inl (n, p, h)
opening_sourced opening n p id Gone h = inl (n, p, h)

-- who sends a body: the router, or it is a pull's
abbrev Sender : Record → Body → Type 0
Sender record' body = (IsTrue (is_pull (Some (record { correlation = 0; partition = 0; body = body })))) ⊎ SentBody record' body

brought_from : (opening : Cells) (record' : Record) (body : Body) (ask : Ask) → ask_of body ≡ Some ask → Sender record' body → Sourced opening record' (id_of ask) (brought ask)
brought_from opening record' (Body.Put id b) ask h s = subst (λ (a : Ask). Sourced opening record' (id_of a) (brought a)) (some_same _ _ h) (elim s [ inl f ↦ absurd cc | inr w ↦ inr w ])
brought_from opening record' (Body.Get id) ask h s = subst (λ (a : Ask). Sourced opening record' (id_of a) (brought a)) (some_same _ _ h) tt
brought_from opening record' (Body.Peek id) ask h s = subst (λ (a : Ask). Sourced opening record' (id_of a) (brought a)) (some_same _ _ h) tt
brought_from opening record' (Body.Delete id at) ask h s = subst (λ (a : Ask). Sourced opening record' (id_of a) (brought a)) (some_same _ _ h) (elim s [ inl f ↦ absurd cc | inr w ↦ inr (at, w) ])
brought_from opening record' (Body.Find max token) ask h s = subst (λ (a : Ask). Sourced opening record' (id_of a) (brought a)) (some_same _ _ h) tt
brought_from opening record' (Body.Fetch id) ask h s = subst (λ (a : Ask). Sourced opening record' (id_of a) (brought a)) (some_same _ _ h) tt
brought_from opening record' (Body.Answer r) ask h s = absurd cc

sender : (opening : Cells) (record' : Record) (request : Request) (f : Frame) → Run opening record' → Has (world opening record').sent request → request.frame ≡ Some f → Sender record' f.body
sender opening record' request f r h e =
    let p = posted opening record' request h in
    let reads : frame_in p.bytes ≡ Some f = p.reads ∙ e in
    elim (allowed_at opening record' (Took (Send request.from request.node p.bytes)) p.then r p.at) [
      | inl z ↦ inr (record {
        node = request.node;
        bytes = p.bytes;
        f = f;
        then = p.then;
        at = subst (λ (k : ℕ). Earlier (Took (Send k request.node p.bytes) ∷ p.then) record') z p.at;
        reads = reads;
        is = refl;
      })
      | inr t ↦ inl (subst (λ (o : Option Frame). is_pull o ≡ true) reads t)
    ]

brought_sourced : (opening : Cells) (record' : Record) (send : ℕ) (call : Call) → Run opening record' → call_at (world opening record') send ≡ Some call → Sourced opening record' (id_of call.ask) (brought call.ask)
brought_sourced opening record' send call r h =
    let c = call_parts (numbered (world opening record').sent send) call h in
    brought_from opening record' c.f.body call.ask c.asks
    (sender opening record' c.request c.f r (numbered_has (world opening record').sent send c.request c.is) c.frame)

-- what a reply to a get carries is what the cell was
carried_is : (c : Cell) (id : BlobId) (reply : Reply) (cell : Cell) → Answers c (Ask.Get id) reply → carried_cell reply ≡ Some cell → cell ≡ c
carried_is Absent id reply cell h k = absurd (let n : carried_cell Reply.Absent ≡ Some cell = subst (λ (r : Reply). carried_cell r ≡ Some cell) h k in cc)
carried_is (Held b) id reply cell h k = sym (some_same _ _ (subst (λ (r : Reply). carried_cell r ≡ Some cell) h k))
carried_is Gone id reply cell h k = sym (some_same _ _ (subst (λ (r : Reply). carried_cell r ≡ Some cell) h k))

-- a refusal carries nothing
refusal_carries : (reply : Reply) (cell : Cell) → is_refusal reply ≡ true → carried_cell reply ≡ Some cell → ⊥
refusal_carries Reply.Full cell h k = cc
refusal_carries Reply.Fault cell h k = cc
refusal_carries Reply.Down cell h k = cc
refusal_carries Reply.Memory cell h k = cc
refusal_carries Reply.NoPartition cell h k = cc
refusal_carries _ cell h k = cc

-- what is carried, of the answer to a fetch
record Fetched (answer : Answered) (change : Change) : Type 0 where
  f : Frame
  frame : answer.request.frame ≡ Some f
  body : f.body ≡ Body.Fetch change.id
  cell : carried_cell answer.reply ≡ Some change.cell

change_is : (id : BlobId) (o : Option Cell) (change : Change) → change_of id o ≡ Some change → (id ≡ change.id) × (o ≡ Some change.cell)
change_is id None change h = absurd cc
change_is id (Some cell) change h = let same : record { id = id; cell = cell } ≡ change = some_same _ _ h in (ap (λ (c : Change). c.id) same, ap (λ (c : Change). Some c.cell) same)

-- what is carried, of the answer to a find: an entry of its page that is gone
record Listed (answer : Answered) (change : Change) : Type 0 where
  page : Page
  place : ℕ
  entry : Entry
  reply : answer.reply ≡ Reply.Page page
  at : slice_get page.entries place ≡ Some entry
  gone : entry.gone ≡ true
  is : change ≡ record { id = entry.id; cell = Gone }

entry_is : (o : Option Entry) (change : Change) → carried_entry o ≡ Some change → (entry : Entry) × (o ≡ Some entry) × (entry.gone ≡ true) × (change ≡ record { id = entry.id; cell = Gone })
entry_is None change h = absurd cc
entry_is (Some entry) change h = go entry.gone refl h
  where
    go : (b : Bool) → entry.gone ≡ b → cond b (Some (record { id = entry.id; cell = Gone })) None ≡ Some change → (e : Entry) × (Some entry ≡ Some e) × (e.gone ≡ true) × (change ≡ record { id = e.id; cell = Gone })
    go true e k = (entry, refl, e, sym (some_same _ _ k))
    go false e k = absurd cc

listed : (answer : Answered) (place : ℕ) (change : Change) → carried_page answer.reply place ≡ Some change → Listed answer change
listed answer place change h = go answer.reply refl h
  where
    go : (reply : Reply) → answer.reply ≡ reply → carried_page reply place ≡ Some change → Listed answer change
    go (Reply.Page page) e k =
        let x = entry_is (slice_get page.entries place) change k in
        record { page = page; place = place; entry = x.0; reply = e; at = x.1; gone = x.2; is = x.3 }
    go _ e k = absurd cc

carried_by : (answer : Answered) (place : ℕ) (change : Change) → carried (Some answer) place ≡ Some change → Fetched answer change ⊎ Listed answer change
carried_by answer place change h = in_frame answer.request.frame refl h
  where
    at_first : (f : Frame) (id : BlobId) (b : Bool) → answer.request.frame ≡ Some f → f.body ≡ Body.Fetch id → cond b (change_of id (carried_cell answer.reply)) None ≡ Some change → Fetched answer change
    at_first f id true e b k = let c = change_is id (carried_cell answer.reply) change k in record { f = f; frame = e; body = b ∙ ap Body.Fetch c.0; cell = c.1 }
    at_first f id false e b k = absurd cc

    in_body : (f : Frame) (body : Body) → answer.request.frame ≡ Some f → f.body ≡ body → (elim body [ Body.Find max token ↦ carried_page answer.reply place | Body.Fetch id ↦ cond (place == 0) (change_of id (carried_cell answer.reply)) None | _ ↦ None ]) ≡ Some change
        → Fetched answer change ⊎ Listed answer change
    in_body f (Body.Find max token) e b k = inr (listed answer place change k)
    in_body f (Body.Fetch id) e b k = inl (at_first f id (place == 0) e b k)
    in_body f (Body.Put id blob) e b k = absurd cc
    in_body f (Body.Get id) e b k = absurd cc
    in_body f (Body.Peek id) e b k = absurd cc
    in_body f (Body.Delete id at) e b k = absurd cc
    in_body f (Body.Answer r) e b k = absurd cc

    in_frame : (o : Option Frame) → answer.request.frame ≡ o → carried_to o answer.reply place ≡ Some change → Fetched answer change ⊎ Listed answer change
    in_frame None e k = absurd cc
    in_frame (Some f) e k = in_body f f.body e refl k

pub record Sources (opening : Cells) (record' : Record) : Type 0 where
  pub cells : (n p : ℕ) (id : BlobId) → Sourced opening record' id ((world opening record').cells n p id)
  pub doubts : (n p : ℕ) (d : Change) → (world opening record').doubts n p ≡ Some d → Sourced opening record' d.id d.cell
  pub replies : (answer : Answered) (place : ℕ) (change : Change) → Has (world opening record').replies answer → carried (Some answer) place ≡ Some change → Sourced opening record' change.id change.cell

merged_sourced : (opening : Cells) (record' : Record) (reply place : ℕ) (change : Change) → Sources opening record' → carried (numbered (world opening record').replies reply) place ≡ Some change → Sourced opening record' change.id change.cell
merged_sourced opening record' reply place change s h = go (numbered (world opening record').replies reply) refl h
  where
    go : (o : Option Answered) → numbered (world opening record').replies reply ≡ o → carried o place ≡ Some change → Sourced opening record' change.id change.cell
    go None e h = absurd cc
    go (Some answer) e h = s.replies answer place change (numbered_has (world opening record').replies reply answer e) h

-- a change arrives at its own id alone
change_sourced : (opening : Cells) (record' : Record) (o : Option Change) (id : BlobId) → ((change : Change) → o ≡ Some change → Sourced opening record' change.id change.cell) → Sourced opening record' id (arriving_change o id)
change_sourced opening record' None id h = tt
change_sourced opening record' (Some change) id h = go (same_id id change.id) refl
  where
    go : (b : Bool) → same_id id change.id ≡ b → Sourced opening record' id (cond b change.cell Absent)
    go false e = tt
    go true e = subst (λ (i : BlobId). Sourced opening record' i change.cell) (sym (same_id_true id change.id e)) (h change refl)

tested_sourced : (opening : Cells) (record' : Record) (b : Bool) (c : Cell) (id : BlobId) → Sourced opening record' id c → Sourced opening record' id (cond b c Absent)
tested_sourced opening record' true c id h = h
tested_sourced opening record' false c id h = tt

arriving_sourced : (opening : Cells) (record' : Record) (item : Item) (n p : ℕ) (id : BlobId) → Run opening record' → Sources opening record' → Sourced opening record' id (arriving (world opening record') item n p id)
arriving_sourced opening record' (Took (Exec send reply)) n p id r s = go (call_at (world opening record') send) refl
  where
    there : (call : Call) (b a : Bool) → is_at call.node call.partition (id_of call.ask) n p id ≡ b → call_at (world opening record') send ≡ Some call → Sourced opening record' id (cond b (cond a Absent (brought call.ask)) Absent)
    there call false a e c = tt
    there call true true e c = tt
    there call true false e c =
        let same : id ≡ id_of call.ask = same_id_true id (id_of call.ask) (and_right _ _ e) in
        subst (λ (i : BlobId). Sourced opening record' i (brought call.ask)) (sym same) (brought_sourced opening record' send call r c)

    go : (o : Option Call) → call_at (world opening record') send ≡ o → Sourced opening record' id (arriving_call o reply n p id)
    go None e = tt
    go (Some call) e = there call _ _ refl e
arriving_sourced opening record' (Took (Restart node done)) n p id r s =
    tested_sourced opening record' ((n == node) && list_any (λ q. q == p) done) (arriving_change ((world opening record').doubts n p) id) id
    (change_sourced opening record' ((world opening record').doubts n p) id (λ change e. s.doubts n p change e))
arriving_sourced opening record' (Took (Merge node partition reply place torn)) n p id r s =
    tested_sourced opening record' (not torn && (n == node) && (p == partition)) (arriving_change (carried (numbered (world opening record').replies reply) place) id) id
    (change_sourced opening record' (carried (numbered (world opening record').replies reply) place) id (λ change e. merged_sourced opening record' reply place change s e))
arriving_sourced opening record' _ n p id r s = tt

doubt_sourced : (opening : Cells) (record' : Record) (item : Item) (n p : ℕ) (d : Change) → Run opening record' → Sources opening record' → doubts_after (world opening record') item n p ≡ Some d → Sourced opening record' d.id d.cell
doubt_sourced opening record' (Took (Torn send)) n p d r s h = go (is_call_at (call_at (world opening record') send) n p) (call_at (world opening record') send) refl h
  where
    go : (b : Bool) (o : Option Call) → call_at (world opening record') send ≡ o → cond b (doubt_call o) ((world opening record').doubts n p) ≡ Some d → Sourced opening record' d.id d.cell
    go false o e k = s.doubts n p d k
    go true None e k = absurd cc
    go true (Some call) e k =
        let same : record { id = id_of call.ask; cell = brought call.ask } ≡ d = some_same _ _ k in
        subst (λ (w : Change). Sourced opening record' w.id w.cell) same (brought_sourced opening record' send call r e)
doubt_sourced opening record' (Took (Restart node done)) n p d r s h = go (n == node) h
  where
    go : (b : Bool) → cond b None ((world opening record').doubts n p) ≡ Some d → Sourced opening record' d.id d.cell
    go false k = s.doubts n p d k
    go true k = absurd cc
doubt_sourced opening record' (Took (Merge node partition reply place torn)) n p d r s h = go (torn && (n == node) && (p == partition)) h
  where
    go : (b : Bool) → cond b (carried (numbered (world opening record').replies reply) place) ((world opening record').doubts n p) ≡ Some d → Sourced opening record' d.id d.cell
    go false k = s.doubts n p d k
    go true k = merged_sourced opening record' reply place d s k
doubt_sourced opening record' _ n p d r s h = s.doubts n p d h

says_sourced : (opening : Cells) (record' : Record) (call : Call) (id : BlobId) (reply : Reply) (cell : Cell) → Sources opening record' → call.ask ≡ Ask.Get id
    → MayReply ((world opening record').doubts call.node call.partition) ((world opening record').cells call.node call.partition (id_of call.ask)) call.ask reply
    → carried_cell reply ≡ Some cell → Sourced opening record' id cell
says_sourced opening record' call id reply cell s q h k = go (is_refusal reply) refl
  where
    here : Cell
    here = (world opening record').cells call.node call.partition (id_of call.ask)

    go : (b : Bool) → is_refusal reply ≡ b → Sourced opening record' id cell
    go true e = absurd (refusal_carries reply cell e k)
    go false e =
        let a = answers_from _ _ call.ask reply h e in
        let is : cell ≡ (world opening record').cells call.node call.partition (id_of call.ask) =
        carried_is ((world opening record').cells call.node call.partition (id_of call.ask)) id reply cell
        (subst (λ (w : Ask). Answers ((world opening record').cells call.node call.partition (id_of call.ask)) w reply) q a) k in
        subst (λ (c : Cell). Sourced opening record' id c) (sym is)
        (subst (λ (i : BlobId). Sourced opening record' i ((world opening record').cells call.node call.partition (id_of call.ask))) (ap id_of q) (s.cells call.node call.partition (id_of call.ask)))

-- a blob that is carried was held, and what is carried as gone was gone
fetched_sourced : (opening : Cells) (record' : Record) (call : Call) (answer : Answered) (change : Change) → Sources opening record' → call_of (Some answer.request) ≡ Some call
    → MayReply ((world opening record').doubts call.node call.partition) ((world opening record').cells call.node call.partition (id_of call.ask)) call.ask answer.reply
    → Fetched answer change → Sourced opening record' change.id change.cell
fetched_sourced opening record' call answer change s is says f =
    let parts = call_parts (Some answer.request) call is in
    let request : answer.request ≡ parts.request = some_same _ _ parts.is in
    let same : f.f ≡ parts.f = some_same _ _ (sym f.frame ∙ (ap (λ (q : Request). q.frame) request ∙ parts.frame)) in
    let ask : call.ask ≡ Ask.Get change.id = sym (some_same _ _ (ap ask_of (sym f.body ∙ ap (λ (g : Frame). g.body) same) ∙ parts.asks)) in
    says_sourced opening record' call change.id answer.reply change.cell s ask says f.cell

-- an entry at a place of a page is one of the cells
entry_of_page : (cells : List ℕ → Cell) (entries : List Entry) (place : ℕ) (entry : Entry) → All (IsEntryOf cells) entries → slice_get entries place ≡ Some entry → IsEntryOf cells entry
entry_of_page cells entries place entry all at = elim (slice_get_cases entries place).1 [
  | inl found ↦ (
      let same : found.0 ≡ entry = some_same _ _ (sym found.2 ∙ at) in
      subst (IsEntryOf cells) (found.3 ∙ same) (All-get_or (IsEntryOf cells) entries place found.0 found.1 all))
  | inr past ↦ absurd (let no : None ≡ Some entry = sym past.1 ∙ at in cc)
]

listed_sourced : (opening : Cells) (record' : Record) (node partition : ℕ) (answer : Answered) (change : Change) → Sources opening record' → PagesCells ((world opening record').cells node partition) answer.reply
    → Listed answer change → Sourced opening record' change.id change.cell
listed_sourced opening record' node partition answer change s pages l =
    let cells = (world opening record').cells node partition in
    let all : All (IsEntryOf cells) l.page.entries = subst (PagesCells cells) l.reply pages in
    let entry : SaysGone l.entry.gone (cells l.entry.id) = entry_of_page cells l.page.entries l.place l.entry all l.at in
    let gone : cells l.entry.id ≡ Gone = subst (λ (b : Bool). SaysGone b (cells l.entry.id)) l.gone entry in
    subst (λ (w : Change). Sourced opening record' w.id w.cell) (sym l.is)
    (subst (λ (c : Cell). Sourced opening record' l.entry.id c) gone (s.cells node partition l.entry.id))

reply_sourced : (opening : Cells) (record' : Record) (item : Item) (answer : Answered) (place : ℕ) (change : Change) → Run opening record' → Allowed (world opening record') item → Sources opening record'
    → Has (replies_after (world opening record') item) answer → carried (Some answer) place ≡ Some change → Sourced opening record' change.id change.cell
reply_sourced opening record' item answer place change r al s h e = elim (answer_new (world opening record') item answer h) [
  | inl old ↦ s.replies answer place change old e
  | inr new ↦ (
      let c = carried_by answer place change e in
      elim new [
        | inl ran ↦ (
            let may = subst (λ i. Allowed (world opening record') i) ran.is al in
            let call : Call = may.0 in
            let run : MayRun (world opening record') ran.send call answer.reply = may.1 in
            let is : call_of (Some answer.request) ≡ Some call = ap call_of (sym ran.sent) ∙ run.sent in
            elim c [
              | inl f ↦ fetched_sourced opening record' call answer change s is run.says f
              | inr l ↦ listed_sourced opening record' call.node call.partition answer change s run.pages l
            ])
        | inr t ↦ elim c [
          | inl f ↦ absurd (refusal_carries answer.reply change.cell (ap is_refusal t) f.cell)
          | inr l ↦ absurd (let no : Reply.Fault ≡ Reply.Page l.page = sym t ∙ l.reply in cc)
        ]
      ])
]

-- every cell, doubt and reply of a run has a source
pub sources : (opening : Cells) (record' : Record) → Run opening record' → Sources opening record'
sources opening [] r = record {
  cells = λ n p id. opening_sourced opening n p id (opening n p id) refl;
  doubts = λ n p d h. absurd cc;
  replies = λ answer place change h e. absurd h;
}
sources opening (item ∷ before) r =
    let s = sources opening before r.0 in
    record {
      cells = λ n p id. sourced_more opening before item id _ (join_is (λ (c : Cell). Sourced opening before id c) ((world opening before).cells n p id) (arriving (world opening before) item n p id)
          (s.cells n p id) (arriving_sourced opening before item n p id r.0 s));
      doubts = λ n p d h. sourced_more opening before item d.id d.cell (doubt_sourced opening before item n p d r.0 s h);
      replies = λ answer place change h e. sourced_more opening before item change.id change.cell (reply_sourced opening before item answer place change r.0 r.1 s h e);
    }
