-- What the ends of requests tell of the world.
use Rattle.std.proofs.Common.{◌≡◌, ℕ, ◌+◌, ◌==◌, Bool, true, false, cond, ◌<◌, List, [], ◌∷◌, Option, Some, None, refl, sym, ap, ◌∙◌, subst, inl, inr, filter, filter_map, nat_le, arith, ◌||◌}
use Rattle.cell_model.specs.declared.ask.Reply.{Reply}
use Rattle.req_frame.specs.declared.frame.Body.{Body}
use Rattle.req_frame.specs.declared.frame.Frame.{Frame}
use Rattle.world_model.specs.declared.history.HistoryMark.{HistoryMark}
use Rattle.world_model.specs.declared.shape.Shape.{Shape}
use Rattle.world_model.specs.declared.step.Event.{Event}
use Rattle.world_model.specs.declared.step.Step.TheVariants.{Send, Refused}
use Rattle.quorum_op.specs.declared.cause.Cause.{Cause}
use Rattle.quorum_op.specs.declared.cause.Finding.{Finding}
use Rattle.world_model.specs.Lists.{Has, Earlier}
use Rattle.req_frame.specs.Faults.{header_of}
use Rattle.req_frame.specs.Reading.{frame_of}
use Rattle.req_frame.specs.Spelling.{LiesIn, is_exchanged}
use Rattle.req_frame.specs.Spelling
use Rattle.req_frame.proofs.Frames.{among_again, among_takes}
use Rattle.world_model.specs.Frames.{frame_in}
use Rattle.world_model.specs.Record.{Item, Marked, Took, Given, Withheld, Record}
use Rattle.world_model.specs.World.{Request}
use Rattle.quorum_op.specs.Tally.{is_failed}
use Rattle.world_model.specs.Notes
use Rattle.world_model.specs.Notes.{Asked, Entry, entry_of, ask_as, asked_by, asked_now, asked, router_frame, operation_of, Learnt, failed, reply_says, body_says, bytes_say, or_patience, says, Ended, end_with, end_at, ends_now, is_open, is_stated, ends, events_in}
use Rattle.world_model.specs.Shape.{node_of, replica_of}
use Rattle.world_model.specs.Router.{MaySend, SendsFrame, SendsSome, RefusesSome, Keeps, IsKept}
use Rattle.world_model.proofs.ListLaws.{earlier_self, has_append, has_left, has_right, has_filter, has_filter_map, first_below_passes}
use Rattle.world_model.proofs.CellLaws.{number_true}
use Rattle.world_model.proofs.SourceLaws.{some_same, Posted}
use Rattle.world_model.specs.Rules.{Rules}

-- frames

-- the id of a frame lies in its partition
pub frame_placed : (bytes : List ℕ) (f : Frame) → frame_in bytes ≡ Some f → LiesIn f.partition f.body
frame_placed bytes f h = (among_takes is_exchanged bytes f h).0.place

-- what a decoder reads is the frame on the network
pub decoded_frame : (bytes : List ℕ) (f : Frame) → frame_of bytes ≡ Some f → frame_in bytes ≡ Some f
decoded_frame bytes f h = h

-- requests

pub asked_later : (older record' : Record) (a : Asked) → Earlier older record' → Has (asked older) a → Has (asked record') a
asked_later older [] a h k = subst (λ (r : Record). Has (asked r) a) h k
asked_later older (item ∷ before) a h k = elim h [
  | inl e ↦ subst (λ (r : Record). Has (asked r) a) e k
  | inr t ↦ has_right (asked_now item before) (asked before) a (asked_later older before a t k)
]

-- a request that the router sent is among those asked
pub record AskedAs (record' : Record) (request : Request) (f : Frame) : Type 0 where
  pub asked : Asked
  pub has : Has (Notes.asked record') asked
  pub correlation : asked.correlation ≡ f.correlation
  pub node : asked.node ≡ request.node
  pub partition : asked.partition ≡ f.partition
  pub body : asked.body ≡ f.body
  pub placed : LiesIn f.partition f.body

pub asked_as : (record' : Record) (request : Request) (f : Frame) → Posted record' request → request.from ≡ 0 → request.frame ≡ Some f → AskedAs record' request f
asked_as record' request f p z e =
    let reads : frame_in p.bytes ≡ Some f = p.reads ∙ e in
    let here : Has (asked_now (Took (Send request.from request.node p.bytes)) p.then) (ask_as f request.node p.then) =
    subst (λ (k : ℕ). Has (cond (k == 0) (asked_by (frame_in p.bytes) request.node p.then) []) (ask_as f request.node p.then)) (sym z)
    (subst (λ (o : Option Frame). Has (asked_by o request.node p.then) (ask_as f request.node p.then)) (sym reads) (inl refl)) in
    record {
      asked = ask_as f request.node p.then;
      has = asked_later _ record' _ p.at (has_left (asked_now (Took (Send request.from request.node p.bytes)) p.then) (asked p.then) _ here);
      correlation = refl;
      node = refl;
      partition = refl;
      body = refl;
      placed = frame_placed p.bytes f reads;
    }

-- a new request is one that its router may send
record NowKept (shape : Shape) (before : Record) (a : Asked) : Type 0 where
  f : Frame
  node : ℕ
  is : a ≡ ask_as f node before
  sends : SendsFrame shape before node f

-- its number is new
pub is_fresh : (shape : Shape) (before : Record) (node : ℕ) (f : Frame) (a : Asked) → SendsFrame shape before node f → Has (asked before) a → a.correlation ≡ f.correlation → ⊥
is_fresh shape before node f a s h e = let l : a.correlation < f.correlation = s.rises a h (ap operation_of e) in omega arith

now_kept : (rules : Rules) (item : Item) (before : Record) (a : Asked) → Keeps rules item before → Has (asked_now item before) a → NowKept rules.shape before a
now_kept rules (Took (Send from node frame)) before a k h = go (from == 0) refl h
  where
    sent : (o : Option Frame) → SendsSome rules.shape before node o → Has (asked_by o node before) a → NowKept rules.shape before a
    sent None s h = absurd h
    sent (Some f) s h = elim h [ inl e ↦ record { f = f; node = node; is = e; sends = s.0 } | inr z ↦ absurd z ]

    go : (b : Bool) → (from == 0) ≡ b → Has (cond b (asked_by (frame_in frame) node before) []) a → NowKept rules.shape before a
    go true e h = sent (frame_in frame) (k (number_true from 0 e)) h
    go false e h = absurd h
now_kept rules (Took (Refused node frame)) before a k h = go (frame_in frame) (router_frame (frame_in frame)) k h
  where
    go : (o own : Option Frame) → RefusesSome rules.shape before node o own → Has (asked_by own node before) a → NowKept rules.shape before a
    go None own s h = absurd s
    go (Some f) None s h = absurd h
    go (Some f) (Some own) s h = elim h [ inl e ↦ record { f = own; node = node; is = e; sends = s.0 } | inr z ↦ absurd z ]
now_kept rules (Withheld node f) before a k h = elim h [ inl e ↦ record { f = f; node = node; is = e; sends = k.0 } | inr z ↦ absurd z ]
now_kept rules _ before a k h = absurd h

by_one : (o : Option Frame) (node : ℕ) (before : Record) (a b : Asked) → Has (asked_by o node before) a → Has (asked_by o node before) b → a ≡ b
by_one None node before a b h k = absurd h
by_one (Some f) node before a b h k = elim h [ inl e ↦ elim k [ inl d ↦ e ∙ sym d | inr z ↦ absurd z ] | inr z ↦ absurd z ]

now_one : (item : Item) (before : Record) (a b : Asked) → Has (asked_now item before) a → Has (asked_now item before) b → a ≡ b
now_one (Took (Send from node frame)) before a b h k = go (from == 0) h k
  where
    go : (t : Bool) → Has (cond t (asked_by (frame_in frame) node before) []) a → Has (cond t (asked_by (frame_in frame) node before) []) b → a ≡ b
    go true h k = by_one (frame_in frame) node before a b h k
    go false h k = absurd h
now_one (Took (Refused node frame)) before a b h k = by_one (router_frame (frame_in frame)) node before a b h k
now_one (Withheld node f) before a b h k = elim h [ inl e ↦ elim k [ inl d ↦ e ∙ sym d | inr z ↦ absurd z ] | inr z ↦ absurd z ]
now_one _ before a b h k = absurd h

-- of one correlation there is one request
pub asked_once : (rules : Rules) (record' : Record) (a b : Asked) → IsKept rules record' → Has (asked record') a → Has (asked record') b → a.correlation ≡ b.correlation → a ≡ b
asked_once rules [] a b k h g e = absurd h
asked_once rules (item ∷ before) a b k h g e = elim (has_append (asked_now item before) (asked before) a h) [
  | inl x ↦ elim (has_append (asked_now item before) (asked before) b g) [
    | inl y ↦ now_one item before a b x y
    | inr y ↦ (let n = now_kept rules item before a k.1 x in absurd (is_fresh rules.shape before n.node n.f b n.sends y (sym e ∙ ap (λ (w : Asked). w.correlation) n.is)))
  ]
  | inr x ↦ elim (has_append (asked_now item before) (asked before) b g) [
    | inl y ↦ (let n = now_kept rules item before b k.1 y in absurd (is_fresh rules.shape before n.node n.f a n.sends x (e ∙ ap (λ (w : Asked). w.correlation) n.is)))
    | inr y ↦ asked_once rules before a b k.0 x y e
  ]
]

-- when a request was sent, it might be
pub record SentThen (shape : Shape) (record' : Record) (a : Asked) : Type 0 where
  pub then : Record
  pub at : Earlier then record'
  pub may : MaySend shape then (operation_of a.correlation) a.aim a.body

pub sent_then : (rules : Rules) (record' : Record) (a : Asked) → IsKept rules record' → Has (asked record') a → SentThen rules.shape record' a
sent_then rules [] a k h = absurd h
sent_then rules (item ∷ before) a k h = elim (has_append (asked_now item before) (asked before) a h) [
  | inl x ↦ (let n = now_kept rules item before a k.1 x in record {
    then = before;
    at = inr (earlier_self before);
    may = subst (λ (w : Asked). MaySend rules.shape before (operation_of w.correlation) w.aim w.body) (sym n.is) n.sends.may;
  })
  | inr x ↦ (let s = sent_then rules before a k.0 x in record { then = s.then; at = inr s.at; may = s.may })
]

-- what a request learnt, and from which item
pub record Said (shape : Shape) (record' : Record) (ended : Ended) : Type 0 where
  pub item : Item
  pub before : Record
  pub at : Earlier (item ∷ before) record'
  pub has : Has (asked (item ∷ before)) ended.asked
  pub stated : Bool
  pub says : Notes.says stated item (events_in before) (entry_of ended.asked) ≡ Some (record { finding = ended.finding; blob = ended.blob })
  pub replica : node_of shape ended.asked.partition ended.replica ≡ ended.asked.node

said_now : (shape : Shape) (item : Item) (before : Record) (a : Asked) (ended : Ended) → Has (asked (item ∷ before)) a → ends_now shape (ends shape before) item before a ≡ Some ended → Said shape (item ∷ before) ended
said_now shape item before a ended h e = go (replica_of shape a.partition a.node) refl e
  where
    learn : (replica : ℕ) (o : Option Learnt) → replica_of shape a.partition a.node ≡ Some replica → says (is_stated shape (ends shape before) a replica) item (events_in before) (entry_of a) ≡ o → end_with a replica o ≡ Some ended → Said shape (item ∷ before) ended
    learn replica None r s e = absurd cc
    learn replica (Some said) r s e =
        let same : record { asked = a; replica = replica; finding = said.finding; blob = said.blob } ≡ ended = some_same _ _ e in
        subst (λ (w : Ended). Said shape (item ∷ before) w) same (record {
          item = item;
          before = before;
          at = inl refl;
          has = h;
          stated = is_stated shape (ends shape before) a replica;
          says = s;
          replica = number_true _ _ (first_below_passes shape.replicas (λ k. node_of shape a.partition k == a.node) replica r);
        })

    go : (o : Option ℕ) → replica_of shape a.partition a.node ≡ o → end_at shape (ends shape before) item before a o ≡ Some ended → Said shape (item ∷ before) ended
    go None r e = absurd cc
    go (Some replica) r e = learn replica (says (is_stated shape (ends shape before) a replica) item (events_in before) (entry_of a)) r refl e

pub ends_said : (shape : Shape) (record' : Record) (ended : Ended) → Has (ends shape record') ended → Said shape record' ended
ends_said shape [] ended h = absurd h
ends_said shape (item ∷ before) ended h =
    elim (has_append (filter_map (ends_now shape (ends shape before) item before) (filter (is_open (ends shape before)) (asked (item ∷ before)))) (ends shape before) ended h) [
      | inl x ↦ (
          let f = has_filter_map (ends_now shape (ends shape before) item before) (filter (is_open (ends shape before)) (asked (item ∷ before))) ended x in
          said_now shape item before f.0 ended (has_filter (is_open (ends shape before)) (asked (item ∷ before)) f.0 f.1).0 f.2)
      | inr y ↦ (let s = ends_said shape before ended y in record { item = s.item; before = s.before; at = inr s.at; has = s.has; stated = s.stated; says = s.says; replica = s.replica })
    ]

-- what is no failure was said by a reply
pub record ReplySaid (stated : Bool) (item : Item) (a : Entry) (said : Learnt) : Type 0 where
  pub node : ℕ
  pub frame : List ℕ
  pub f : Frame
  pub reply : Reply
  pub is : item ≡ Given (Event.Reply node frame)
  pub place : node ≡ a.node
  pub reads : frame_of frame ≡ Some f
  pub correlation : f.correlation ≡ a.correlation
  pub body : f.body ≡ Body.Answer reply
  pub says : reply_says stated a.asking reply ≡ Some said

pub failed_says : (cause : Cause) (said : Learnt) → failed cause ≡ Some said → is_failed (Some said.finding) ≡ false → ⊥
failed_says cause said e s =
    let same : record { finding = Finding.Failed cause; blob = None } ≡ said = some_same _ _ e in
    let t : is_failed (Some (Finding.Failed cause)) ≡ false = subst (λ (w : Learnt). is_failed (Some w.finding) ≡ false) (sym same) s in
    cc

not_patience : (a : Entry) (events : ℕ) (o : Option Learnt) (said : Learnt) → or_patience a events o ≡ Some said → is_failed (Some said.finding) ≡ false → o ≡ Some said
not_patience a events (Some s) said e f = e
not_patience a events None said e f = go (nat_le (a.events + 65536) (1 + events)) e
  where
    go : (b : Bool) → cond b (failed Cause.Patience) None ≡ Some said → None ≡ Some said
    go true e = absurd (failed_says Cause.Patience said e f)
    go false e = e

-- a test that leads to a failure or to nothing says no finding
tested_fails : (b : Bool) (cause : Cause) (said : Learnt) → cond b (failed cause) None ≡ Some said → is_failed (Some said.finding) ≡ false → ⊥
tested_fails true cause said e f = failed_says cause said e f
tested_fails false cause said e f = cc

bytes_said : (stated : Bool) (a : Entry) (node : ℕ) (frame : List ℕ) (said : Learnt) → node ≡ a.node → bytes_say stated a (frame_of frame) (header_of frame) ≡ Some said → is_failed (Some said.finding) ≡ false
    → ReplySaid stated (Given (Event.Reply node frame)) a said
bytes_said stated a node frame said place e s = go (frame_of frame) (header_of frame) refl e
  where
    in_body : (f : Frame) (body : Body) → frame_of frame ≡ Some f → f.correlation ≡ a.correlation → f.body ≡ body → body_says stated a.asking body ≡ Some said → ReplySaid stated (Given (Event.Reply node frame)) a said
    in_body f (Body.Answer reply) r c b e = record { node = node; frame = frame; f = f; reply = reply; is = refl; place = place; reads = r; correlation = c; body = b; says = e }
    in_body f (Body.Put id blob) r c b e = absurd (failed_says Cause.Stray said e s)
    in_body f (Body.Get id) r c b e = absurd (failed_says Cause.Stray said e s)
    in_body f (Body.Peek id) r c b e = absurd (failed_says Cause.Stray said e s)
    in_body f (Body.Delete id at) r c b e = absurd (failed_says Cause.Stray said e s)
    in_body f (Body.Find max token) r c b e = absurd (failed_says Cause.Stray said e s)
    in_body f (Body.Fetch id) r c b e = absurd (failed_says Cause.Stray said e s)

    matched : (f : Frame) (b : Bool) → (f.correlation == a.correlation) ≡ b → frame_of frame ≡ Some f → cond b (body_says stated a.asking f.body) None ≡ Some said → ReplySaid stated (Given (Event.Reply node frame)) a said
    matched f true q r e = in_body f f.body r (number_true _ _ q) refl e
    matched f false q r e = absurd cc

    go : (o : Option Frame) (h : Option (ℕ × ℕ × ℕ)) → frame_of frame ≡ o → bytes_say stated a o h ≡ Some said → ReplySaid stated (Given (Event.Reply node frame)) a said
    go (Some f) h r e = matched f (f.correlation == a.correlation) refl r e
    go None (Some header) r e = absurd (tested_fails (header.0 == a.correlation) Cause.Stray said e s)
    go None None r e = absurd cc

pub reply_said : (stated : Bool) (item : Item) (events : ℕ) (a : Entry) (said : Learnt) → says stated item events a ≡ Some said → is_failed (Some said.finding) ≡ false → ReplySaid stated item a said
reply_said stated (Given (Event.Reply node frame)) events a said e s = go (node == a.node) refl (not_patience a events _ said e s)
  where
    go : (b : Bool) → (node == a.node) ≡ b → cond b (bytes_say stated a (frame_of frame) (header_of frame)) None ≡ Some said → ReplySaid stated (Given (Event.Reply node frame)) a said
    go true q e = bytes_said stated a node frame said (number_true _ _ q) e s
    go false q e = absurd cc
reply_said stated (Given (Event.Broken node)) events a said e s = absurd (tested_fails (node == a.node) Cause.Broken said (not_patience a events _ said e s) s)
reply_said stated (Given (Event.Now ms)) events a said e s = absurd (tested_fails _ Cause.Timeout said (not_patience a events _ said e s) s)
reply_said stated (Given Event.Quiet) events a said e s = absurd (let n : None ≡ Some said = not_patience a events None said e s in cc)
reply_said stated (Took (Refused node frame)) events a said e s = go (frame_in frame) e
  where
    go : (o : Option Frame) → (elim o [ Some f ↦ cond (f.correlation == a.correlation) (failed Cause.Broken) None | None ↦ None ]) ≡ Some said → ReplySaid stated (Took (Refused node frame)) a said
    go None e = absurd cc
    go (Some f) e = absurd (tested_fails _ Cause.Broken said e s)
reply_said stated (Withheld node f) events a said e s = absurd (tested_fails _ Cause.Cancelled said e s)
reply_said stated (Marked (HistoryMark.Drain node on)) events a said e s = absurd (tested_fails _ Cause.Cancelled said e s)
reply_said stated _ events a said e s = absurd cc
