-- Whether a record is a run, by computing.
use Rattle.std.proofs.Common.{arith, zero, suc, All, ◌≡◌, ◌^◌, ◌/◌, slice_index, length, ◌≢◌, ℕ, nat_lt, Bool, true, false, List, [], ◌∷◌, Option, Some, None, refl, ap, ◌∙◌, inl}
use Rattle.std.proofs.lemmas.List.Elements.{All-cons, All-nil}
use Rattle.blob_id.specs.Id.{IsId}
use Rattle.cell_model.specs.declared.ask.Ask.{Ask}
use Rattle.cell_model.specs.declared.ask.Reply.{Reply}
use Rattle.cell_model.specs.declared.cell.Cell.{Cell}
use Rattle.cell_model.specs.Asks.{id_of, Answers}
use Rattle.cell_model.specs.Pages.{IsEntryOf, PagesCells, SaysGone}
use Rattle.field_codec.specs.Spelling.{IsBytes}
use Rattle.find_token.specs.declared.page.Page.{Page}
use Rattle.find_token.specs.declared.token.FindToken.{FindToken}
use Rattle.find_token.specs.Pages.{IsPage}
use Rattle.find_token.specs.Tokens.{IsToken}
use Rattle.req_frame.specs.declared.frame.Body.{Body}
use Rattle.req_frame.specs.declared.frame.Frame.{Frame}
use Rattle.world_model.specs.declared.step.Event.{Event}
use Rattle.world_model.specs.declared.step.Step.TheVariants.{Send, Refused, Exec, Torn, Hand, Now, Cut, Stop, Restart, Merge, Compact}
use Rattle.world_model.specs.Frames.{frame_in}
use Rattle.world_model.specs.Lists.{Has, numbered}
use Rattle.world_model.specs.Record.{Item, Marked, Drawn, Aimed, Took, Given, Withheld, Decided}
use Rattle.world_model.specs.Safe.{is_held}
use Rattle.world_model.specs.World.{Allowed, Answered, Broken_made, Call, Change, IsNext, Made, MayMerge, MayReply, MayRun, MayTear, Now_made, Reply_made, Shows, World, call_at, carried, is_pull}
use Rattle.quorum_op.proofs.CountLaws.{and_left, and_right}
use Rattle.model_examples.proofs.TestLemmas.{all_pass}
use Rattle.model_examples.proofs.Searches.{below, blob, both, either, found, less, number, reply_is, some_in, unless, up_to, when, where_so}

abbrev pub has_number : (xs : List ℕ) (n : ℕ) → Option (Has xs n)
has_number [] n = None
has_number (m ∷ before) n = either (number n m) (has_number before n)

abbrev pub all_found : {A : Type 0} (P : A → Type 0) → ((x : A) → Option (P x)) → (xs : List A) → Option (All P xs)
all_found P test [] = Some (All-nil P)
all_found P test (x ∷ xs) = found (λ h. All-cons P x xs h.0 h.1) (both (test x) (all_found P test xs))

-- ---- what a replica answers

abbrev pub is_token : (token : FindToken) → Option (IsToken token)
is_token FindToken.Start = Some tt
is_token (FindToken.Journal lsn) = below lsn (2 ^ 64)

abbrev pub is_byte : ℕ → Bool
is_byte b = nat_lt b 256

pub are_bytes : (xs : List ℕ) → all_pass is_byte xs ≡ true → IsBytes xs
are_bytes [] t i = omega arith
are_bytes (x ∷ xs) t zero = less x 256 (and_left _ _ t)
are_bytes (x ∷ xs) t (suc i) = are_bytes xs (and_right _ _ t) i

abbrev pub is_id : (id : List ℕ) → Option (IsId id)
is_id id = found (λ h. record { size = h.0.0; each = h.0.1; version = h.1.0.0; kind = h.1.0.1; uuid_version = h.1.1.0; uuid_variant = h.1.1.1 })
    (both (both (number (length id) 20) (found (are_bytes id) (when (all_pass is_byte id))))
    (both (both (number (slice_index id 0) 1) (below (slice_index id 1) 3)) (both (number (slice_index id 10 / 16) 4) (number (slice_index id 12 / 64) 2))))

abbrev pub is_page : (page : Page) → Option (IsPage page)
is_page page = found (λ h. record { count = h.0; ids = h.1.0; next = h.1.1 })
    (both (up_to (length page.entries) 64) (both (all_found (λ entry. IsId entry.id) (λ entry. is_id entry.id) page.entries) (is_token page.next)))

-- of asks that no example has none is found
abbrev pub answers : (cell : Cell) (ask : Ask) (reply : Reply) → Option (Answers cell ask reply)
answers Cell.Absent (Ask.Put id b) reply = reply_is reply Reply.Stored
answers (Cell.Held held) (Ask.Put id b) reply = found inl (both (blob held b) (reply_is reply Reply.There))
answers Cell.Gone (Ask.Put id b) reply = reply_is reply Reply.Gone
answers Cell.Absent (Ask.Get id) reply = reply_is reply Reply.Absent
answers (Cell.Held held) (Ask.Get id) reply = reply_is reply (Reply.Blob held)
answers Cell.Gone (Ask.Get id) reply = reply_is reply Reply.Gone
answers Cell.Absent (Ask.Peek id) reply = reply_is reply Reply.Absent
answers (Cell.Held held) (Ask.Peek id) reply = reply_is reply Reply.There
answers Cell.Gone (Ask.Peek id) reply = reply_is reply Reply.Gone
answers c (Ask.Delete id at) reply = reply_is reply Reply.Done
answers c (Ask.Find token max) (Reply.Page page) = found (λ h. (page, h.0, h.1, refl)) (both (is_page page) (up_to (length page.entries) max))
answers c ask reply = None

abbrev pub may_reply : (doubt : Option Change) (cell : Cell) (ask : Ask) (reply : Reply) → Option (MayReply doubt cell ask reply)
may_reply None cell ask reply = found inl (answers cell ask reply)
may_reply (Some doubt) cell ask reply = reply_is reply Reply.Down

pub not_absent : (cell : Cell) → is_held cell ≡ true → cell ≢ Cell.Absent
not_absent cell h e = let q : is_held cell ≡ false = ap is_held e in cc

abbrev pub says_gone : (gone : Bool) (cell : Cell) → Option (SaysGone gone cell)
says_gone true Cell.Gone = Some refl
says_gone true cell = None
says_gone false cell = found (not_absent cell) (when (is_held cell))

abbrev pub pages : (cells : List ℕ → Cell) (reply : Reply) → Option (PagesCells cells reply)
pages cells (Reply.Page page) = all_found (IsEntryOf cells) (λ entry. says_gone entry.gone (cells entry.id)) page.entries
pages cells Reply.Stored = Some tt
pages cells Reply.There = Some tt
pages cells Reply.Clash = Some tt
pages cells Reply.Gone = Some tt
pages cells (Reply.Blob b) = Some tt
pages cells Reply.Absent = Some tt
pages cells Reply.Done = Some tt
pages cells Reply.Full = Some tt
pages cells Reply.Fault = Some tt
pages cells Reply.Down = Some tt
pages cells Reply.Memory = Some tt
pages cells Reply.NoPartition = Some tt
pages cells reply = None

abbrev pub may_run : (w : World) (send : ℕ) (reply : Reply) (call : Option Call) → call_at w send ≡ call → Option ((call : Call) × MayRun w send call reply)
may_run w send reply None e = None
may_run w send reply (Some call) e =
    found (λ h. (call, record { sent = e; running = h.0; says = h.1.0; pages = h.1.1 }))
    (both (unless (w.stopped call.node)) (both (may_reply (w.doubts call.node call.partition) (w.cells call.node call.partition (id_of call.ask)) call.ask reply) (pages (w.cells call.node call.partition) reply)))

abbrev pub is_none : {A : Type 0} → (o : Option A) → Option (o ≡ None)
is_none None = Some refl
is_none (Some a) = None

abbrev pub may_tear : (w : World) (send : ℕ) (call : Option Call) → call_at w send ≡ call → Option ((call : Call) × MayTear w send call)
may_tear w send None e = None
may_tear w send (Some call) e =
    found (λ h. (call, record { sent = e; running = h.0; sure = h.1 })) (both (unless (w.stopped call.node)) (is_none (w.doubts call.node call.partition)))

pub answer_parts : (f : Frame) (c p : ℕ) (reply r : Reply) → (((f.correlation ≡ c) × (f.partition ≡ p)) × (r ≡ reply)) → f.body ≡ Body.Answer r → Some f ≡ Some (record { correlation = c; partition = p; body = Body.Answer reply })
answer_parts f c p reply r h e =
    ap Some (ap (λ (n : ℕ). record { correlation = n; partition = f.partition; body = f.body }) h.0.0
    ∙ ap (λ (n : ℕ). record { correlation = c; partition = n; body = f.body }) h.0.1
    ∙ ap (λ (b : Body). record { correlation = c; partition = p; body = b }) (e ∙ ap Body.Answer h.1))

abbrev pub answer_is : (f : Frame) (body : Body) → f.body ≡ body → (c p : ℕ) (reply : Reply) → Option (Some f ≡ Some (record { correlation = c; partition = p; body = Body.Answer reply }))
answer_is f (Body.Answer r) e c p reply = found (λ h. answer_parts f c p reply r h e) (both (both (number f.correlation c) (number f.partition p)) (reply_is r reply))
answer_is f body e c p reply = None

abbrev pub frame_is : (o : Option Frame) (c p : ℕ) (reply : Reply) → Option (o ≡ Some (record { correlation = c; partition = p; body = Body.Answer reply }))
frame_is None c p reply = None
frame_is (Some f) c p reply = answer_is f f.body refl c p reply

abbrev pub frame_for : (reply : Reply) (frame : List ℕ) (o asked : Option Frame) → o ≡ asked
    → Option ((asked : Frame) × (o ≡ Some asked) × (frame_in frame ≡ Some (record { correlation = asked.correlation; partition = asked.partition; body = Body.Answer reply })))
frame_for reply frame o None e = None
frame_for reply frame o (Some f) e = found (λ h. (f, e, h)) (frame_is (frame_in frame) f.correlation f.partition reply)

abbrev pub shows : (made : Made) (event : Event) → Option (Shows made event)
shows (Reply_made answer) (Event.Reply node frame) = found (λ h. (h.0, h.1)) (both (number node answer.request.node) (frame_for answer.reply frame answer.request.frame answer.request.frame refl))
shows (Broken_made node) (Event.Broken other) = number other node
shows (Now_made ms) (Event.Now other) = number other ms
shows made event = None

abbrev pub is_next : (waiting : List Made) (event : Event) → Option (IsNext waiting event)
is_next [] event = None
is_next (made ∷ rest) event = shows made event

-- a merge of what a reply carries that was handed on
abbrev pub may_merge_frame : (w : World) (node partition reply place : ℕ) (torn : Bool) (answer : Answered) → numbered w.replies reply ≡ Some answer → (frame : Option Frame) → answer.request.frame ≡ frame → Option (MayMerge w node partition reply place torn)
may_merge_frame w node partition reply place torn answer e None q = None
may_merge_frame w node partition reply place torn answer e (Some f) q = found
    (λ h. record { running = h.0.0; handed = h.0.1; answer = answer; is = e; from = h.1.0; asked = f; frame = q; here = h.1.1.0; carries = h.1.1.1.0; sure = h.1.1.1.1 })
    (both (both (unless (w.stopped node)) (has_number w.handed reply))
    (both (number answer.request.from node) (both (number f.partition partition) (both (some_in (carried (Some answer) place)) (where_so torn (is_none (w.doubts node partition)))))))

abbrev pub may_merge : (w : World) (node partition reply place : ℕ) (torn : Bool) (answer : Option Answered) → numbered w.replies reply ≡ answer → Option (MayMerge w node partition reply place torn)
may_merge w node partition reply place torn None e = None
may_merge w node partition reply place torn (Some answer) e = may_merge_frame w node partition reply place torn answer e answer.request.frame refl

abbrev pub allowed : (w : World) (item : Item) → Option (Allowed w item)
allowed w (Took (Send from node frame)) = either (number from 0) (when (is_pull (frame_in frame)))
allowed w (Took (Refused node frame)) = when (w.stopped node)
allowed w (Took (Exec send reply)) = may_run w send reply (call_at w send) refl
allowed w (Took (Torn send)) = may_tear w send (call_at w send) refl
allowed w (Took (Hand reply)) = some_in (numbered w.replies reply)
allowed w (Took (Now ms)) = up_to w.clock ms
allowed w (Took (Restart node done)) = when (w.stopped node)
allowed w (Took (Merge node partition reply place torn)) = may_merge w node partition reply place torn (numbered w.replies reply) refl
allowed w (Took (Cut node)) = Some tt
allowed w (Took (Stop node)) = Some tt
allowed w (Took (Compact node partition reply)) = Some tt
allowed w (Given Event.Quiet) = Some tt
allowed w (Given (Event.Reply node frame)) = is_next w.waiting (Event.Reply node frame)
allowed w (Given (Event.Broken node)) = is_next w.waiting (Event.Broken node)
allowed w (Given (Event.Now ms)) = is_next w.waiting (Event.Now ms)
allowed w (Marked mark) = Some tt
allowed w (Drawn operation part attempt id b) = Some tt
allowed w (Aimed correlation part attempt) = Some tt
allowed w (Withheld node f) = Some tt
allowed w (Decided operation outcome) = Some tt
