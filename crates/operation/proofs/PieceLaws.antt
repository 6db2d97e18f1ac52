-- A piece goes on by one call.
use Rattle.std.proofs.Common.{◌≡◌, ◌≢◌, ℕ, zero, suc, ◌==◌, ◌<◌, ◌≤◌, Bool, true, false, ◌&&◌, ◌||◌, not, cond, List, [], ◌∷◌, filter, find, map, length, Option, Some, None, refl, sym, ap, ◌∙◌, subst, arith, slice_set, get_or-set_same, get_or-set_other}
use Rattle.std.proofs.lemmas.Bool.Decides.{Decides-eqb}
use Rattle.std.proofs.lemmas.List.Elements.{All-filter, All-same}
use Rattle.std.specs.List.{All, list_any}
use Rattle.blob_id.specs.declared.blob.Blob.{Blob}
use Rattle.cell_model.specs.declared.ask.Reply.{Reply}
use Rattle.quorum_op.specs.declared.cause.Cause.{Cause}
use Rattle.quorum_op.specs.declared.cause.Finding.{Finding}
use Rattle.quorum_op.specs.declared.cause.TallyKind.{TallyKind}
use Rattle.quorum_op.specs.Counts.{or_else}
use Rattle.quorum_op.specs.Slots.{IsSameTally, IsTallyOf, TallyView}
use Rattle.quorum_op.specs.Tally.{Note, is_pending, is_state, standing, verdict}
use Rattle.quorum_op.proofs.CountLaws.{and_left, and_right}
use Rattle.world_model.specs.declared.asking.Asking.{Asking}
use Rattle.world_model.specs.Notes.{Learnt, reply_says, same_kind}
use Rattle.world_model.specs.World.{same_id}
use Rattle.world_model.proofs.CellLaws.{same_id_self, same_number}
use Rattle.operation.specs.declared.piece.Open.{Open}
use Rattle.operation.specs.declared.sending.Errand.{Errand}
use Rattle.operation.specs.declared.sending.Sending.{Sending}
use Rattle.operation.specs.Calls.{Call, Sent, Replied, Missed, Drew, Cancelled, Starved, Polled, id_of, open_in, sent_in}
use Rattle.operation.specs.Notes.{count_note, learnt_blob, learnt_finding, note_by}
use Rattle.operation.specs.Pieces.{IsPieceOf, PieceView, Target, asked_at, asking_of, blob_at, brought_by, heard, is_for, kind_of, noted_failure, noted_reply, notes_at, open_for, open_of, outstanding, replica_in, same_chunk, target_of, verdict_at, was_asked}
use Rattle.operation.specs.Wants.{part_of}
use Rattle.operation.proofs.ListLaws.{filter_open, filter_short, filter_swap, find_open, found_passes, opened, others_all, same_either}

kind_true : (a b : TallyKind) → same_kind a b ≡ true → a ≡ b
kind_true TallyKind.Put TallyKind.Put h = refl
kind_true TallyKind.Get TallyKind.Get h = refl
kind_true TallyKind.Delete TallyKind.Delete h = refl
kind_true TallyKind.Put TallyKind.Get h = absurd cc
kind_true TallyKind.Put TallyKind.Delete h = absurd cc
kind_true TallyKind.Get TallyKind.Put h = absurd cc
kind_true TallyKind.Get TallyKind.Delete h = absurd cc
kind_true TallyKind.Delete TallyKind.Put h = absurd cc
kind_true TallyKind.Delete TallyKind.Get h = absurd cc

kind_self : (a : TallyKind) → same_kind a a ≡ true
kind_self TallyKind.Put = refl
kind_self TallyKind.Get = refl
kind_self TallyKind.Delete = refl

abbrev asking_by : TallyKind → Asking
asking_by TallyKind.Put = Asking.Put
asking_by TallyKind.Get = Asking.Get
asking_by TallyKind.Delete = Asking.Delete

asking_read : (errand : Errand) → asking_of errand ≡ asking_by (kind_of errand)
asking_read (Errand.Put id) = refl
asking_read (Errand.Get id) = refl
asking_read (Errand.Delete id at) = refl

chunk_self : (chunk : Option ℕ) → same_chunk chunk chunk ≡ true
chunk_self None = refl
chunk_self (Some k) = same_number k

-- a request of the piece is for it
pub own_request : (t : Target) (errand : Errand) (request replica : ℕ) → kind_of errand ≡ t.kind → id_of errand ≡ t.id
    → is_for t (record { request = request; replica = replica; purpose = part_of t; errand = errand }) ≡ true
own_request t errand request replica k d =
    let kind : same_kind t.kind (kind_of errand) ≡ true = ap (λ (x : TallyKind). same_kind t.kind x) k ∙ kind_self t.kind in
    let id : same_id (id_of errand) t.id ≡ true = ap (λ x. same_id x t.id) d ∙ same_id_self t.id in
    λ i. (chunk_self t.chunk i && same_number t.attempt i) && (kind i && id i)

-- ---- calls that are none of the piece's

-- calls that neither send nor end requests
abbrev pub is_still : Call → Bool
is_still (Drew id body) = true
is_still Cancelled = true
is_still Starved = true
is_still Polled = true
is_still _ = false

pub piece_still : (t : Target) (view : PieceView) (call : Call) (calls : List Call) → is_still call ≡ true → IsPieceOf t view calls → IsPieceOf t view (call ∷ calls)
piece_still t view (Drew id body) calls e h = record { target = h.target; kind = h.kind; requests = h.requests; asked = h.asked; notes = h.notes; blob = h.blob }
piece_still t view Cancelled calls e h = record { target = h.target; kind = h.kind; requests = h.requests; asked = h.asked; notes = h.notes; blob = h.blob }
piece_still t view Starved calls e h = record { target = h.target; kind = h.kind; requests = h.requests; asked = h.asked; notes = h.notes; blob = h.blob }
piece_still t view Polled calls e h = record { target = h.target; kind = h.kind; requests = h.requests; asked = h.asked; notes = h.notes; blob = h.blob }
piece_still t view (Sent sending) calls e h = absurd cc
piece_still t view (Replied request reply) calls e h = absurd cc
piece_still t view (Missed request cause) calls e h = absurd cc

-- a request that is not for the piece changes nothing
pub piece_aside : (t : Target) (view : PieceView) (sending : Sending) (calls : List Call) → is_for t sending ≡ false → IsPieceOf t view calls → IsPieceOf t view (Sent sending ∷ calls)
piece_aside t view sending calls e h = record {
  target = h.target;
  kind = h.kind;
  requests = h.requests ∙ ap (λ (b : Bool). map open_of (cond b (sending ∷ open_for t calls) (open_for t calls))) (sym e);
  asked = λ r l. h.asked r l ∙ ap (λ (b : Bool). (b && (sending.replica == r)) || was_asked t calls r) (sym e);
  notes = h.notes;
  blob = h.blob;
}

-- ---- a piece that sent nothing

none_open : (calls : List Call) → sent_in calls ≡ [] → open_in calls ≡ []
none_open [] e = refl
none_open (Sent sending ∷ calls) e = absurd cc
none_open (Replied request reply ∷ calls) e = ap (λ (l : List Sending). filter (λ s. not (s.request == request)) l) (none_open calls e)
none_open (Missed request cause ∷ calls) e = ap (λ (l : List Sending). filter (λ s. not (s.request == request)) l) (none_open calls e)
none_open (Drew id body ∷ calls) e = none_open calls e
none_open (Cancelled ∷ calls) e = none_open calls e
none_open (Starved ∷ calls) e = none_open calls e
none_open (Polled ∷ calls) e = none_open calls e

none_due : (t : Target) (calls : List Call) (request : ℕ) → sent_in calls ≡ [] → outstanding t calls request ≡ None
none_due t calls request e = ap (λ (l : List Sending). find (λ s. s.request == request) (filter (is_for t) l)) (none_open calls e)

none_noted : (t : Target) (calls : List Call) → sent_in calls ≡ [] → notes_at t calls ≡ []
none_noted t [] e = refl
none_noted t (Sent sending ∷ calls) e = absurd cc
none_noted t (Replied request reply ∷ calls) e = ap (λ (o : Option Sending). noted_reply t (notes_at t calls) reply o) (none_due t calls request e) ∙ none_noted t calls e
none_noted t (Missed request cause ∷ calls) e = ap (λ (o : Option Sending). noted_failure t (notes_at t calls) cause o) (none_due t calls request e) ∙ none_noted t calls e
none_noted t (Drew id body ∷ calls) e = none_noted t calls e
none_noted t (Cancelled ∷ calls) e = none_noted t calls e
none_noted t (Starved ∷ calls) e = none_noted t calls e
none_noted t (Polled ∷ calls) e = none_noted t calls e

pub or_none : {A : Type 0} (o : Option A) → or_else o None ≡ o
or_none None = refl
or_none (Some x) = refl

-- a reply to no outstanding request brings no blob
none_brought : (t : Target) (calls : List Call) (request : ℕ) (reply : Reply) → outstanding t calls request ≡ None → blob_at t (Replied request reply ∷ calls) ≡ blob_at t calls
none_brought t calls request reply out =
    ap (λ (o : Option Sending). or_else (blob_at t calls) (cond (is_pending (verdict_at t calls)) (brought_by (notes_at t calls) reply o) None)) out
    ∙ (ap (λ (o : Option Blob). or_else (blob_at t calls) o) (same_either {A = Option Blob} (is_pending (verdict_at t calls)) None) ∙ or_none (blob_at t calls))

none_came : (t : Target) (calls : List Call) → sent_in calls ≡ [] → blob_at t calls ≡ None
none_came t [] e = refl
none_came t (Sent sending ∷ calls) e = absurd cc
none_came t (Replied request reply ∷ calls) e = none_brought t calls request reply (none_due t calls request e) ∙ none_came t calls e
none_came t (Missed request cause ∷ calls) e = none_came t calls e
none_came t (Drew id body ∷ calls) e = none_came t calls e
none_came t (Cancelled ∷ calls) e = none_came t calls e
none_came t (Starved ∷ calls) e = none_came t calls e
none_came t (Polled ∷ calls) e = none_came t calls e

pub piece_new : (t : Target) (view : PieceView) (calls : List Call) → sent_in calls ≡ [] → t ≡ target_of view → kind_of view.errand ≡ t.kind → view.requests ≡ [] → ((r : ℕ) → r < t.replicas → asked_at view.asked r ≡ false)
    → IsTallyOf view.tally [] → view.blob ≡ None → IsPieceOf t view calls
piece_new t view calls e target kind requests asked notes blob = record {
  target = target;
  kind = kind;
  requests = requests ∙ sym (ap (λ (l : List Sending). map open_of (filter (is_for t) l)) (none_open calls e));
  asked = λ r l. asked r l ∙ sym (ap (λ (l : List Sending). list_any (λ s. is_for t s && (s.replica == r)) l) e);
  notes = subst (λ (l : List Note). IsTallyOf view.tally l) (sym (none_noted t calls e)) notes;
  blob = blob ∙ sym (none_came t calls e);
}

-- ---- a request of the piece

pub piece_sent : (t : Target) (view : PieceView) (calls : List Call) (sending : Sending) (requests : List Open) (asked : List Bool) → IsPieceOf t view calls → is_for t sending ≡ true
    → requests ≡ open_of sending ∷ view.requests → asked ≡ slice_set view.asked sending.replica true → sending.replica < length view.asked
    → IsPieceOf t (record { chunk = view.chunk; attempt = view.attempt; errand = view.errand; requests = requests; asked = asked; tally = view.tally; blob = view.blob }) (Sent sending ∷ calls)
piece_sent t view calls sending requests asked h own now marked within = record {
  target = h.target;
  kind = h.kind;
  requests = now ∙ (ap (λ (l : List Open). open_of sending ∷ l) h.requests ∙ ap (λ (b : Bool). map open_of (cond b (sending ∷ open_for t calls) (open_for t calls))) (sym own));
  asked = λ r l.
      ap (λ (a : List Bool). asked_at a r) marked
      ∙ (go r l (sending.replica == r) refl ∙ ap (λ (b : Bool). (b && (sending.replica == r)) || was_asked t calls r) (sym own));
  notes = h.notes;
  blob = h.blob;
}
  where
    go : (r : ℕ) → r < t.replicas → (b : Bool) → (sending.replica == r) ≡ b → asked_at (slice_set view.asked sending.replica true) r ≡ ((sending.replica == r) || was_asked t calls r)
    go r l true e =
        let same : sending.replica ≡ r = (Decides-eqb sending.replica r).0 e in
        subst (λ (w : ℕ). asked_at (slice_set view.asked sending.replica true) w ≡ true) same (get_or-set_same view.asked sending.replica true false within)
        ∙ sym (ap (λ (b : Bool). b || was_asked t calls r) e)
    go r l false e =
        let other : r ≢ sending.replica = λ w. (let x : (sending.replica == r) ≡ true = (Decides-eqb sending.replica r).1 (sym w) in cc) in
        get_or-set_other view.asked sending.replica r true false other ∙ (h.asked r l ∙ sym (ap (λ (b : Bool). b || was_asked t calls r) e))

abbrev falses : ℕ → List Bool
falses zero = []
falses (suc n) = false ∷ falses n

-- no replica of a new piece was asked
pub none_asked : (n replica : ℕ) → asked_at (falses n) replica ≡ false
none_asked zero replica = refl
none_asked (suc n) zero = refl
none_asked (suc n) (suc replica) = none_asked n replica

-- ---- what is said to a request

-- fewer requests are left
pub left_few : (request m : ℕ) (requests slice left : List Open) → left ≡ filter (λ o. not (o.request == request)) slice → slice ≡ requests → length requests ≤ m → length left ≤ m
left_few request m requests slice left e same l =
    let short : length (filter (λ (o : Open). not (o.request == request)) slice) ≤ length slice = filter_short (λ (o : Open). not (o.request == request)) slice in
    let a : length left ≡ length (filter (λ (o : Open). not (o.request == request)) slice) = ap (λ (os : List Open). length os) e in
    let b : length slice ≡ length requests = ap (λ (os : List Open). length os) same in
    omega arith

-- and each went to one of the piece's replicas
pub left_within : (request n n' : ℕ) (requests slice left : List Open) → left ≡ filter (λ o. not (o.request == request)) slice → slice ≡ requests → n' ≡ n → All (λ o. o.replica < n) requests → All (λ o. o.replica < n') left
left_within request n n' requests slice left e same k h =
    subst (λ (m : ℕ). All (λ (o : Open). o.replica < m) left) (sym k)
    (All-same (λ (o : Open). o.replica < n) left (filter (λ (o : Open). not (o.request == request)) slice) e
    (All-filter (λ (o : Open). not (o.request == request)) (λ (o : Open). o.replica < n) slice (All-same (λ (o : Open). o.replica < n) slice requests same h)))

-- the request of a number
pub record Holds (t : Target) (view : PieceView) (calls : List Call) (request replica : ℕ) : Type 0 where
  pub sending : Sending
  pub due : outstanding t calls request ≡ Some sending
  pub to : sending.replica ≡ replica
  pub asks : asking_of sending.errand ≡ asking_of view.errand

due_read : (t : Target) (view : PieceView) (calls : List Call) (request : ℕ) → IsPieceOf t view calls → find (λ o. o.request == request) view.requests ≡ opened (outstanding t calls request)
due_read t view calls request h = ap (λ (l : List Open). find (λ o. o.request == request) l) h.requests ∙ find_open request (open_for t calls)

asks_same : (t : Target) (view : PieceView) (calls : List Call) (request : ℕ) (sending : Sending) → IsPieceOf t view calls → outstanding t calls request ≡ Some sending → asking_of sending.errand ≡ asking_of view.errand
asks_same t view calls request sending h due =
    let own : is_for t sending ≡ true = found_passes (is_for t) (λ s. s.request == request) (open_in calls) sending due in
    let kind : t.kind ≡ kind_of sending.errand = kind_true _ _ (and_left _ _ (and_right _ _ own)) in
    asking_read sending.errand ∙ (ap (λ (k : TallyKind). asking_by k) (sym (h.kind ∙ kind)) ∙ sym (asking_read view.errand))

pub held : (t : Target) (view : PieceView) (calls : List Call) (request replica : ℕ) → IsPieceOf t view calls → replica_in (find (λ o. o.request == request) view.requests) ≡ Some replica → Holds t view calls request replica
held t view calls request replica h found = go (outstanding t calls request) refl (sym (ap (λ (o : Option Open). replica_in o) (due_read t view calls request h)) ∙ found)
  where
    go : (o : Option Sending) → outstanding t calls request ≡ o → replica_in (opened o) ≡ Some replica → Holds t view calls request replica
    go None e f = absurd cc
    go (Some s) e f = record { sending = s; due = e; to = (let x : s.replica ≡ replica = cc in x); asks = asks_same t view calls request s h e }

pub not_held : (t : Target) (view : PieceView) (calls : List Call) (request : ℕ) → IsPieceOf t view calls → replica_in (find (λ o. o.request == request) view.requests) ≡ None → outstanding t calls request ≡ None
not_held t view calls request h found = go (outstanding t calls request) refl (sym (ap (λ (o : Option Open). replica_in o) (due_read t view calls request h)) ∙ found)
  where
    go : (o : Option Sending) → outstanding t calls request ≡ o → replica_in (opened o) ≡ None → outstanding t calls request ≡ None
    go None e f = e
    go (Some s) e f = absurd cc

-- the requests without one
left_open : (t : Target) (view : PieceView) (calls : List Call) (request : ℕ) (requests : List Open) → IsPieceOf t view calls → requests ≡ filter (λ o. not (o.request == request)) view.requests
    → requests ≡ map open_of (filter (is_for t) (filter (λ s. not (s.request == request)) (open_in calls)))
left_open t view calls request requests h e =
    e ∙ (ap (λ (l : List Open). filter (λ o. not (o.request == request)) l) h.requests
    ∙ (filter_open request (open_for t calls) ∙ ap (λ (l : List Sending). map open_of l) (filter_swap (λ s. not (s.request == request)) (is_for t) (open_in calls))))

same_open : (t : Target) (view : PieceView) (calls : List Call) (request : ℕ) → IsPieceOf t view calls → outstanding t calls request ≡ None
    → view.requests ≡ map open_of (filter (is_for t) (filter (λ s. not (s.request == request)) (open_in calls)))
same_open t view calls request h out =
    h.requests ∙ ap (λ (l : List Sending). map open_of l) (sym (others_all request (open_for t calls) out) ∙ filter_swap (λ s. not (s.request == request)) (is_for t) (open_in calls))

same_target : (view : PieceView) (tally : TallyView) (requests : List Open) (blob : Option Blob) → IsSameTally view.tally tally
    → target_of view ≡ target_of (record { chunk = view.chunk; attempt = view.attempt; errand = view.errand; requests = requests; asked = view.asked; tally = tally; blob = blob })
same_target view tally requests blob same = λ i. record { chunk = view.chunk; attempt = view.attempt; kind = sym same.kind i; id = id_of view.errand; replicas = sym same.replicas i; need = sym same.need i }

replied_own : (view : PieceView) (calls : List Call) (request : ℕ) (reply : Reply) (replica : ℕ) (stated pending : Bool) (finding : Finding) (requests : List Open) (tally : TallyView) (blob : Option Blob)
    → IsPieceOf (target_of view) view calls → Holds (target_of view) view calls request replica → ((notes : List Note) → IsTallyOf view.tally notes → stated ≡ is_state (standing notes replica))
    → learnt_finding (reply_says stated (asking_of view.errand) reply) ≡ Some finding
    → ((notes : List Note) → IsTallyOf view.tally notes → pending ≡ is_pending (verdict view.tally.kind view.tally.replicas view.tally.need notes)) → IsSameTally view.tally tally
    → ((notes : List Note) → IsTallyOf view.tally notes → IsTallyOf tally (count_note view.tally.kind view.tally.replicas view.tally.need (Some (record { replica = replica; finding = finding })) notes))
    → requests ≡ filter (λ o. not (o.request == request)) view.requests → blob ≡ or_else view.blob (cond pending (learnt_blob (reply_says stated (asking_of view.errand) reply)) None)
    → IsPieceOf (target_of view) (record { chunk = view.chunk; attempt = view.attempt; errand = view.errand; requests = requests; asked = view.asked; tally = tally; blob = blob }) (Replied request reply ∷ calls)
replied_own view calls request reply replica stated pending finding requests tally blob h holds states says pends same noted left came =
    let t : Target = target_of view in
    let notes : List Note = notes_at t calls in
    let s : Sending = holds.sending in
    let state : is_state (standing notes s.replica) ≡ stated = ap (λ (r : ℕ). is_state (standing notes r)) holds.to ∙ sym (states notes h.notes) in
    let hears : heard notes reply s ≡ reply_says stated (asking_of view.errand) reply = λ i. reply_says (state i) (holds.asks i) reply in
    let found : learnt_finding (heard notes reply s) ≡ Some finding = ap (λ (o : Option Learnt). learnt_finding o) hears ∙ says in
    let note : note_by s.replica (learnt_finding (heard notes reply s)) ≡ Some (record { replica = replica; finding = finding }) = λ i. note_by (holds.to i) (found i) in
    let now : notes_at t (Replied request reply ∷ calls) ≡ count_note t.kind t.replicas t.need (Some (record { replica = replica; finding = finding })) notes =
    ap (λ (o : Option Sending). noted_reply t notes reply o) holds.due ∙ ap (λ (o : Option Note). count_note t.kind t.replicas t.need o notes) note in
    let brings : learnt_blob (reply_says stated (asking_of view.errand) reply) ≡ brought_by notes reply (outstanding t calls request) =
    sym (ap (λ (o : Option Sending). brought_by notes reply o) holds.due ∙ ap (λ (o : Option Learnt). learnt_blob o) hears) in
    let pend : pending ≡ is_pending (verdict_at t calls) = pends notes h.notes in
    record {
      target = same_target view tally requests blob same;
      kind = h.kind;
      requests = left_open t view calls request requests h left;
      asked = h.asked;
      notes = subst (λ (l : List Note). IsTallyOf tally l) (sym now) (noted notes h.notes);
      blob = came ∙ (λ i. or_else (h.blob i) (cond (pend i) (brings i) None));
    }

-- a reply to an outstanding request
pub replied_goes_on : (t : Target) (view : PieceView) (calls : List Call) (request : ℕ) (reply : Reply) (replica : ℕ) (stated pending : Bool) (finding : Finding) (requests : List Open) (tally : TallyView) (blob : Option Blob)
    → IsPieceOf t view calls → replica_in (find (λ o. o.request == request) view.requests) ≡ Some replica → ((notes : List Note) → IsTallyOf view.tally notes → stated ≡ is_state (standing notes replica))
    → learnt_finding (reply_says stated (asking_of view.errand) reply) ≡ Some finding
    → ((notes : List Note) → IsTallyOf view.tally notes → pending ≡ is_pending (verdict view.tally.kind view.tally.replicas view.tally.need notes)) → IsSameTally view.tally tally
    → ((notes : List Note) → IsTallyOf view.tally notes → IsTallyOf tally (count_note view.tally.kind view.tally.replicas view.tally.need (Some (record { replica = replica; finding = finding })) notes))
    → requests ≡ filter (λ o. not (o.request == request)) view.requests → blob ≡ or_else view.blob (cond pending (learnt_blob (reply_says stated (asking_of view.errand) reply)) None)
    → IsPieceOf t (record { chunk = view.chunk; attempt = view.attempt; errand = view.errand; requests = requests; asked = view.asked; tally = tally; blob = blob }) (Replied request reply ∷ calls)
replied_goes_on t view calls request reply replica stated pending finding requests tally blob h found states says pends same noted left came =
    let own : IsPieceOf (target_of view) view calls = subst (λ (u : Target). IsPieceOf u view calls) h.target h in
    subst (λ (u : Target). IsPieceOf u (record { chunk = view.chunk; attempt = view.attempt; errand = view.errand; requests = requests; asked = view.asked; tally = tally; blob = blob }) (Replied request reply ∷ calls)) (sym h.target)
    (replied_own view calls request reply replica stated pending finding requests tally blob own (held (target_of view) view calls request replica own found) states says pends same noted left came)

-- a reply to no outstanding request
pub replied_stays : (t : Target) (view : PieceView) (calls : List Call) (request : ℕ) (reply : Reply) → IsPieceOf t view calls → replica_in (find (λ o. o.request == request) view.requests) ≡ None → IsPieceOf t view (Replied request reply ∷ calls)
replied_stays t view calls request reply h found =
    let out : outstanding t calls request ≡ None = not_held t view calls request h found in
    record {
      target = h.target;
      kind = h.kind;
      requests = same_open t view calls request h out;
      asked = h.asked;
      notes = subst (λ (o : Option Sending). IsTallyOf view.tally (noted_reply t (notes_at t calls) reply o)) (sym out) h.notes;
      blob = h.blob ∙ sym (none_brought t calls request reply out);
    }

missed_own : (view : PieceView) (calls : List Call) (request : ℕ) (cause : Cause) (replica : ℕ) (requests : List Open) (tally : TallyView)
    → IsPieceOf (target_of view) view calls → Holds (target_of view) view calls request replica → IsSameTally view.tally tally
    → ((notes : List Note) → IsTallyOf view.tally notes → IsTallyOf tally (count_note view.tally.kind view.tally.replicas view.tally.need (Some (record { replica = replica; finding = Finding.Failed cause })) notes))
    → requests ≡ filter (λ o. not (o.request == request)) view.requests
    → IsPieceOf (target_of view) (record { chunk = view.chunk; attempt = view.attempt; errand = view.errand; requests = requests; asked = view.asked; tally = tally; blob = view.blob }) (Missed request cause ∷ calls)
missed_own view calls request cause replica requests tally h holds same noted left =
    let t : Target = target_of view in
    let notes : List Note = notes_at t calls in
    let now : notes_at t (Missed request cause ∷ calls) ≡ count_note t.kind t.replicas t.need (Some (record { replica = replica; finding = Finding.Failed cause })) notes =
    ap (λ (o : Option Sending). noted_failure t notes cause o) holds.due
    ∙ ap (λ (r : ℕ). count_note t.kind t.replicas t.need (Some (record { replica = r; finding = Finding.Failed cause })) notes) holds.to in
    record {
      target = same_target view tally requests view.blob same;
      kind = h.kind;
      requests = left_open t view calls request requests h left;
      asked = h.asked;
      notes = subst (λ (l : List Note). IsTallyOf tally l) (sym now) (noted notes h.notes);
      blob = h.blob;
    }

-- the failure of an outstanding request
pub missed_goes_on : (t : Target) (view : PieceView) (calls : List Call) (request : ℕ) (cause : Cause) (replica : ℕ) (requests : List Open) (tally : TallyView)
    → IsPieceOf t view calls → replica_in (find (λ o. o.request == request) view.requests) ≡ Some replica → IsSameTally view.tally tally
    → ((notes : List Note) → IsTallyOf view.tally notes → IsTallyOf tally (count_note view.tally.kind view.tally.replicas view.tally.need (Some (record { replica = replica; finding = Finding.Failed cause })) notes))
    → requests ≡ filter (λ o. not (o.request == request)) view.requests
    → IsPieceOf t (record { chunk = view.chunk; attempt = view.attempt; errand = view.errand; requests = requests; asked = view.asked; tally = tally; blob = view.blob }) (Missed request cause ∷ calls)
missed_goes_on t view calls request cause replica requests tally h found same noted left =
    let own : IsPieceOf (target_of view) view calls = subst (λ (u : Target). IsPieceOf u view calls) h.target h in
    subst (λ (u : Target). IsPieceOf u (record { chunk = view.chunk; attempt = view.attempt; errand = view.errand; requests = requests; asked = view.asked; tally = tally; blob = view.blob }) (Missed request cause ∷ calls)) (sym h.target)
    (missed_own view calls request cause replica requests tally own (held (target_of view) view calls request replica own found) same noted left)

-- the failure of no outstanding request
pub missed_stays : (t : Target) (view : PieceView) (calls : List Call) (request : ℕ) (cause : Cause) → IsPieceOf t view calls → replica_in (find (λ o. o.request == request) view.requests) ≡ None → IsPieceOf t view (Missed request cause ∷ calls)
missed_stays t view calls request cause h found =
    let out : outstanding t calls request ≡ None = not_held t view calls request h found in
    record {
      target = h.target;
      kind = h.kind;
      requests = same_open t view calls request h out;
      asked = h.asked;
      notes = subst (λ (o : Option Sending). IsTallyOf view.tally (noted_failure t (notes_at t calls) cause o)) (sym out) h.notes;
      blob = h.blob;
    }
