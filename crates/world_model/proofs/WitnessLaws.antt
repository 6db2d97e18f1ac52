-- Each end that is no failure shows what a replica held behind the request's sending.
use Rattle.std.proofs.Common.{◌≡◌, ℕ, ◌<◌, arith, ◌⊎◌, Bool, true, false, cond, ◌∷◌, Option, Some, None, refl, sym, ap, ◌∙◌, subst, inl, inr}
use Rattle.blob_id.specs.declared.id.BlobId.{BlobId}
use Rattle.blob_id.specs.declared.blob.Blob.{Blob}
use Rattle.cell_model.specs.declared.cell.Cell.{Cell}
use Rattle.cell_model.specs.declared.cell.Cell.TheVariants.{Absent, Held, Gone}
use Rattle.cell_model.specs.declared.ask.Ask.{Ask}
use Rattle.cell_model.specs.declared.ask.Reply.{Reply}
use Rattle.world_model.specs.declared.asking.Asking.{Asking}
use Rattle.req_frame.specs.declared.frame.Body.{Body}
use Rattle.req_frame.specs.declared.frame.Frame.{Frame}
use Rattle.world_model.specs.declared.shape.Shape.{Shape}
use Rattle.world_model.specs.declared.step.Event.{Event}
use Rattle.world_model.specs.declared.step.Step.TheVariants.{Exec}
use Rattle.quorum_op.specs.declared.cause.Cause.{Cause}
use Rattle.quorum_op.specs.declared.cause.Finding.{Finding}
use Rattle.world_model.specs.Lists.{Has, Earlier, numbered}
use Rattle.cell_model.specs.Cells.{join}
use Rattle.cell_model.specs.Asks.{landed, is_refusal, Answers}
use Rattle.cell_model.specs.Asks
use Rattle.req_frame.specs.Spelling.{LiesIn}
use Rattle.world_model.specs.Frames.{ask_of}
use Rattle.blob_id.specs.Id.{partition_of}
use Rattle.world_model.specs.Record.{Part, Item, Took, Given, Record, turns_in}
use Rattle.world_model.specs.World.{Cells as Maps, Request, Call, world, Run, MayRun, arriving_call}
use Rattle.quorum_op.specs.Tally.{is_failed}
use Rattle.world_model.specs.Notes
use Rattle.world_model.specs.Notes.{Asked, asking_of, events_in, entry_of, operation_of, kind_of, Learnt, learnt, failed, reply_says, Ended, fits, aims_at, is_of, ends}
use Rattle.world_model.specs.Shape.{node_of}
use Rattle.world_model.specs.Router.{IsKept}
use Rattle.world_model.specs.Outcomes.{put_piece, read_piece, delete_piece}
use Rattle.world_model.specs.Safe.{is_held, is_gone}
use Rattle.world_model.proofs.ListLaws.{numbered_has, earlier_tail, earlier_trans, each_earlier}
use Rattle.world_model.proofs.CellLaws.{number_true, same_id_true, is_at_self, answers_from, put_holds, delete_removes, held_rises, gone_rises}
use Rattle.quorum_op.proofs.CountLaws.{and_left, and_right}
use Rattle.world_model.proofs.WorldLaws.{ran_at, allowed_at, run_earlier, shown_by, rises, turns_rise}
use Rattle.world_model.proofs.SourceLaws.{some_same, posted, call_parts}
use Rattle.world_model.proofs.NoteLaws.{asked_as, decoded_frame, asked_later, asked_once, SentThen, sent_then, ends_said, reply_said, failed_says}
use Rattle.world_model.specs.Rules.{Rules}

abbrev says_failure : Option Learnt → Bool
says_failure None = true
says_failure (Some said) = is_failed (Some said.finding)

-- a reply that refuses is a failure
refusal_fails : (stated : Bool) (asking : Asking) (reply : Reply) → is_refusal reply ≡ true → says_failure (reply_says stated asking reply) ≡ true
refusal_fails stated Asking.Put Reply.Full h = refl
refusal_fails stated Asking.Delete Reply.Full h = refl
refusal_fails stated _ Reply.Full h = refl
refusal_fails stated _ Reply.Fault h = refl
refusal_fails stated _ Reply.Down h = refl
refusal_fails stated _ Reply.Memory h = refl
refusal_fails stated _ Reply.NoPartition h = refl
refusal_fails stated asking Reply.Stored h = absurd cc
refusal_fails stated asking _ h = absurd cc

pub not_refusal : (stated : Bool) (asking : Asking) (reply : Reply) (said : Learnt) → reply_says stated asking reply ≡ Some said → is_failed (Some said.finding) ≡ false → is_refusal reply ≡ false
not_refusal stated asking reply said e s = go (is_refusal reply) refl
  where
    go : (b : Bool) → is_refusal reply ≡ b → is_refusal reply ≡ false
    go false q = q
    go true q = absurd (let f : says_failure (Some said) ≡ true = ap says_failure (sym e) ∙ refusal_fails stated asking reply q in cc)

-- what a request learnt by the answer of a replica that ran it
pub record Witness (shape : Shape) (opening : Maps) (record' : Record) (ended : Ended) : Type 0 where
  pub then : Record
  pub send : ℕ
  pub call : Call
  pub reply : Reply
  pub at : Earlier (Took (Exec send reply) ∷ then) record'
  pub later : turns_in then < turns_in record'
  pub may : MayRun (world opening then) send call reply
  pub answers : Answers ((world opening then).cells call.node call.partition (Asks.id_of call.ask)) call.ask reply
  pub asks : ask_of ended.asked.body ≡ Some call.ask
  pub place : call.node ≡ node_of shape ended.asked.partition ended.replica
  pub partition : call.partition ≡ ended.asked.partition
  pub placed : LiesIn ended.asked.partition ended.asked.body
  pub sends : SentThen shape then ended.asked
  pub stated : Bool
  pub says : reply_says stated (asking_of ended.asked.body) reply ≡ Some (record { finding = ended.finding; blob = ended.blob })

pub witness : (rules : Rules) (opening : Maps) (record' : Record) (ended : Ended) → Run opening record' → IsKept rules record' → Has (ends rules.shape record') ended → is_failed (Some ended.finding) ≡ false
    → Witness rules.shape opening record' ended
witness rules opening record' ended run kept h sure =
    let s = ends_said rules.shape record' ended h in
    let learnt' : Learnt = record { finding = ended.finding; blob = ended.blob } in
    let rs = reply_said s.stated s.item (events_in s.before) (entry_of ended.asked) learnt' s.says sure in
    let at : Earlier (Given (Event.Reply rs.node rs.frame) ∷ s.before) record' = subst (λ (i : Item). Earlier (i ∷ s.before) record') rs.is s.at in
    let sh = shown_by opening s.before rs.node rs.frame (allowed_at opening record' (Given (Event.Reply rs.node rs.frame)) s.before run at) in
    let before : Earlier s.before record' = earlier_tail _ s.before record' at in
    let run' : Run opening s.before = run_earlier opening record' s.before run before in
    let same : rs.f ≡ record { correlation = sh.asked.correlation; partition = sh.asked.partition; body = Body.Answer sh.answer.reply } = some_same _ _ (sym (decoded_frame rs.frame rs.f rs.reads) ∙ sh.reads) in
    let bodies : Body.Answer rs.reply ≡ Body.Answer sh.answer.reply = sym rs.body ∙ ap (λ (f : Frame). f.body) same in
    let reply : rs.reply ≡ sh.answer.reply = cc bodies in
    let says : reply_says s.stated (asking_of ended.asked.body) sh.answer.reply ≡ Some learnt' = subst (λ (r : Reply). reply_says s.stated (asking_of ended.asked.body) r ≡ Some learnt') reply rs.says in
    elim (ran_at opening s.before sh.answer run' sh.given) [
      | inr f ↦ absurd (let n : is_refusal sh.answer.reply ≡ false = not_refusal s.stated (asking_of ended.asked.body) sh.answer.reply learnt' says sure in
          let y : is_refusal sh.answer.reply ≡ true = ap is_refusal f in cc)
      | inl ran ↦ (
          let parts = call_parts (numbered (world opening ran.then).sent ran.send) ran.call ran.may.sent in
          let requests : sh.answer.request ≡ parts.request = some_same _ _ (sym ran.sent ∙ parts.is) in
          let frames : sh.asked ≡ parts.f = some_same _ _ (sym sh.sent ∙ (ap (λ (r : Request). r.frame) requests ∙ parts.frame)) in
          let post = posted opening ran.then sh.answer.request (numbered_has (world opening ran.then).sent ran.send sh.answer.request ran.sent) in
          let aa = asked_as ran.then sh.answer.request sh.asked post sh.router sh.sent in
          let back : Earlier ran.then s.before = earlier_tail _ ran.then s.before ran.at in
          let once : aa.asked ≡ ended.asked =
          asked_once rules record' aa.asked ended.asked kept
          (asked_later ran.then record' aa.asked (earlier_trans ran.then s.before record' back before) aa.has)
          (asked_later (s.item ∷ s.before) record' ended.asked s.at s.has)
          (aa.correlation ∙ (sym (ap (λ (f : Frame). f.correlation) same) ∙ rs.correlation)) in
          let body : sh.asked.body ≡ ended.asked.body = sym aa.body ∙ ap (λ (a : Asked). a.body) once in
          let partition' : sh.asked.partition ≡ ended.asked.partition = sym aa.partition ∙ ap (λ (a : Asked). a.partition) once in
          record {
            then = ran.then;
            send = ran.send;
            call = ran.call;
            reply = sh.answer.reply;
            at = earlier_trans _ s.before record' ran.at before;
            later = omega (arith, turns_rise ran.then s.before back, turns_rise (Given (Event.Reply rs.node rs.frame) ∷ s.before) record' at);
            may = ran.may;
            answers = answers_from _ _ ran.call.ask sh.answer.reply ran.may.says (not_refusal s.stated (asking_of ended.asked.body) sh.answer.reply learnt' says sure);
            asks = subst (λ (b : Body). ask_of b ≡ Some ran.call.ask) (sym (ap (λ (f : Frame). f.body) frames) ∙ body) parts.asks;
            place = parts.node ∙ (sym (ap (λ (r : Request). r.node) requests) ∙ (sym aa.node ∙ (ap (λ (a : Asked). a.node) once ∙ sym s.replica)));
            partition = parts.partition ∙ (sym (ap (λ (f : Frame). f.partition) frames) ∙ partition');
            placed = subst (λ (b : Body). LiesIn ended.asked.partition b) body (subst (λ (p : ℕ). LiesIn p sh.asked.body) partition' aa.placed);
            sends = subst (λ (a : Asked). SentThen rules.shape ran.then a) once
                (sent_then rules ran.then aa.asked (each_earlier _ record' ran.then kept (earlier_trans ran.then s.before record' back before)) aa.has);
            stated = s.stated;
            says = says;
          })
    ]

-- the body of a piece's request

pub put_body : (operation : ℕ) (part : Part) (attempt : ℕ) (id : BlobId) (body : Body) → fits (put_piece operation part attempt id) (kind_of body) (Notes.id_of body) ≡ true → (b : Blob) × (body ≡ Body.Put id b)
put_body operation part attempt id (Body.Put other b) h = (b, ap (λ (i : BlobId). Body.Put i b) (same_id_true other id h))
put_body operation part attempt id (Body.Get other) h = absurd cc
put_body operation part attempt id (Body.Peek other) h = absurd cc
put_body operation part attempt id (Body.Delete other at) h = absurd cc
put_body operation part attempt id (Body.Find max token) h = absurd cc
put_body operation part attempt id (Body.Fetch other) h = absurd cc
put_body operation part attempt id (Body.Answer r) h = absurd cc

pub read_body : (operation : ℕ) (part : Part) (id : BlobId) (body : Body) → fits (read_piece operation part id) (kind_of body) (Notes.id_of body) ≡ true → (body ≡ Body.Get id) ⊎ (body ≡ Body.Peek id)
read_body operation part id (Body.Put other b) h = absurd cc
read_body operation part id (Body.Get other) h = inl (ap Body.Get (same_id_true other id h))
read_body operation part id (Body.Peek other) h = inr (ap Body.Peek (same_id_true other id h))
read_body operation part id (Body.Delete other at) h = absurd cc
read_body operation part id (Body.Find max token) h = absurd cc
read_body operation part id (Body.Fetch other) h = absurd cc
read_body operation part id (Body.Answer r) h = absurd cc

pub delete_body : (operation : ℕ) (part : Part) (id : BlobId) (body : Body) → fits (delete_piece operation part id) (kind_of body) (Notes.id_of body) ≡ true → (at : ℕ) × (body ≡ Body.Delete id at)
delete_body operation part id (Body.Put other b) h = absurd cc
delete_body operation part id (Body.Get other) h = absurd cc
delete_body operation part id (Body.Peek other) h = absurd cc
delete_body operation part id (Body.Delete other at) h = (at, ap (λ (i : BlobId). Body.Delete i at) (same_id_true other id h))
delete_body operation part id (Body.Find max token) h = absurd cc
delete_body operation part id (Body.Fetch other) h = absurd cc
delete_body operation part id (Body.Answer r) h = absurd cc

-- what a read learns of a cell
abbrev pub get_learns : Cell → Learnt
get_learns Absent = record { finding = Finding.Absent; blob = None }
get_learns (Held b) = record { finding = Finding.Yes; blob = Some b }
get_learns Gone = record { finding = Finding.Gone; blob = None }

abbrev pub peek_learns : Cell → Learnt
peek_learns Absent = record { finding = Finding.Absent; blob = None }
peek_learns (Held b) = record { finding = Finding.State; blob = None }
peek_learns Gone = record { finding = Finding.Gone; blob = None }

unless_stated : (stated : Bool) (said : Learnt) → cond stated (failed Cause.Stray) (learnt Finding.Absent) ≡ Some said → is_failed (Some said.finding) ≡ false → record { finding = Finding.Absent; blob = None } ≡ said
unless_stated true said e s = absurd (failed_says Cause.Stray said e s)
unless_stated false said e s = some_same _ _ e

pub get_reads : (c : Cell) (id : BlobId) (reply : Reply) (stated : Bool) (said : Learnt) → Answers c (Ask.Get id) reply → reply_says stated Asking.Get reply ≡ Some said → is_failed (Some said.finding) ≡ false → get_learns c ≡ said
get_reads Absent id reply stated said a e s = unless_stated stated said (subst (λ (r : Reply). reply_says stated Asking.Get r ≡ Some said) a e) s
get_reads (Held b) id reply stated said a e s = some_same _ _ (subst (λ (r : Reply). reply_says stated Asking.Get r ≡ Some said) a e)
get_reads Gone id reply stated said a e s = some_same _ _ (subst (λ (r : Reply). reply_says stated Asking.Get r ≡ Some said) a e)

pub peek_reads : (c : Cell) (id : BlobId) (reply : Reply) (stated : Bool) (said : Learnt) → Answers c (Ask.Peek id) reply → reply_says stated Asking.Peek reply ≡ Some said → is_failed (Some said.finding) ≡ false → peek_learns c ≡ said
peek_reads Absent id reply stated said a e s = unless_stated stated said (subst (λ (r : Reply). reply_says stated Asking.Peek r ≡ Some said) a e) s
peek_reads (Held b) id reply stated said a e s = some_same _ _ (subst (λ (r : Reply). reply_says stated Asking.Peek r ≡ Some said) a e)
peek_reads Gone id reply stated said a e s = some_same _ _ (subst (λ (r : Reply). reply_says stated Asking.Peek r ≡ Some said) a e)

-- what an ask leaves at its place
exec_lands : (opening : Maps) (then : Record) (send : ℕ) (call : Call) (reply : Reply) → MayRun (world opening then) send call reply
    → (world opening (Took (Exec send reply) ∷ then)).cells call.node call.partition (Asks.id_of call.ask)
    ≡ join ((world opening then).cells call.node call.partition (Asks.id_of call.ask)) (landed call.ask reply)
exec_lands opening then send call reply may =
    let here : arriving_call (Some call) reply call.node call.partition (Asks.id_of call.ask) ≡ landed call.ask reply =
    ap (λ (b : Bool). cond b (landed call.ask reply) Absent) (is_at_self call.node call.partition (Asks.id_of call.ask)) in
    ap (λ (c : Cell). join ((world opening then).cells call.node call.partition (Asks.id_of call.ask)) c)
    (ap (λ (o : Option Call). arriving_call o reply call.node call.partition (Asks.id_of call.ask)) may.sent ∙ here)

-- a cell of a piece's replica
abbrev pub cell_at : Shape → Maps → BlobId → ℕ → Cell
cell_at shape maps id replica = maps (node_of shape (partition_of id) replica) (partition_of id) id

-- at the place that a witness names
at_place : (rules : Rules) (maps : Maps) (call : Call) (partition replica : ℕ) (id : BlobId)
    → call.node ≡ node_of rules.shape partition replica → call.partition ≡ partition → Asks.id_of call.ask ≡ id → partition_of id ≡ partition
    → maps call.node call.partition (Asks.id_of call.ask) ≡ cell_at rules.shape maps id replica
at_place rules maps call partition replica id n p i l =
    let q : partition_of id ≡ partition = l in
    ap (λ (k : ℕ). maps k call.partition (Asks.id_of call.ask)) (n ∙ ap (λ (k : ℕ). node_of rules.shape k replica) (sym q))
    ∙ (ap (λ (k : ℕ). maps (node_of rules.shape (partition_of id) replica) k (Asks.id_of call.ask)) (p ∙ sym q)
    ∙ ap (λ (k : BlobId). maps (node_of rules.shape (partition_of id) replica) (partition_of id) k) i)

-- a put that was noted as done holds, from then on
pub put_noted : (rules : Rules) (opening : Maps) (record' : Record) (operation : ℕ) (part : Part) (attempt : ℕ) (id : BlobId) (ended : Ended) → Run opening record' → IsKept rules record' → Has (ends rules.shape record') ended
    → is_failed (Some ended.finding) ≡ false → is_of (put_piece operation part attempt id) ended.asked ≡ true
    → is_held (cell_at rules.shape (world opening record').cells id ended.replica) ≡ true
put_noted rules opening record' operation part attempt id ended run kept h sure of =
    let w = witness rules opening record' ended run kept h sure in
    let b = put_body operation part attempt id ended.asked.body (and_right _ _ (and_right _ _ of)) in
    let ask : Ask.Put id b.0 ≡ w.call.ask = some_same _ _ (ap ask_of (sym b.1) ∙ w.asks) in
    let after' : Record = Took (Exec w.send w.reply) ∷ w.then in
    let holds : is_held ((world opening after').cells w.call.node w.call.partition (Asks.id_of w.call.ask)) ≡ true =
    ap is_held (exec_lands opening w.then w.send w.call w.reply w.may)
    ∙ subst (λ (a : Ask). Answers ((world opening w.then).cells w.call.node w.call.partition (Asks.id_of w.call.ask)) a w.reply → is_held (join ((world opening w.then).cells w.call.node w.call.partition (Asks.id_of w.call.ask)) (landed a w.reply)) ≡ true)
    ask (put_holds _ id b.0 w.reply) w.answers in
    let place = at_place rules (world opening record').cells w.call ended.asked.partition ended.replica id w.place w.partition (ap Asks.id_of (sym ask))
    (subst (λ (q : Body). LiesIn ended.asked.partition q) b.1 w.placed) in
    ap is_held (sym place) ∙ held_rises _ _ (rises opening after' record' w.call.node w.call.partition (Asks.id_of w.call.ask) w.at) holds

-- a delete that was noted as done leaves the id gone, from then on
pub delete_noted : (rules : Rules) (opening : Maps) (record' : Record) (operation : ℕ) (part : Part) (id : BlobId) (ended : Ended) → Run opening record' → IsKept rules record' → Has (ends rules.shape record') ended
    → is_failed (Some ended.finding) ≡ false → is_of (delete_piece operation part id) ended.asked ≡ true
    → is_gone (cell_at rules.shape (world opening record').cells id ended.replica) ≡ true
delete_noted rules opening record' operation part id ended run kept h sure of =
    let w = witness rules opening record' ended run kept h sure in
    let b = delete_body operation part id ended.asked.body (and_right _ _ (and_right _ _ of)) in
    let ask : Ask.Delete id b.0 ≡ w.call.ask = some_same _ _ (ap ask_of (sym b.1) ∙ w.asks) in
    let after' : Record = Took (Exec w.send w.reply) ∷ w.then in
    let gone : is_gone ((world opening after').cells w.call.node w.call.partition (Asks.id_of w.call.ask)) ≡ true =
    ap is_gone (exec_lands opening w.then w.send w.call w.reply w.may)
    ∙ subst (λ (a : Ask). Answers ((world opening w.then).cells w.call.node w.call.partition (Asks.id_of w.call.ask)) a w.reply → is_gone (join ((world opening w.then).cells w.call.node w.call.partition (Asks.id_of w.call.ask)) (landed a w.reply)) ≡ true)
    ask (delete_removes _ id b.0 w.reply) w.answers in
    let place = at_place rules (world opening record').cells w.call ended.asked.partition ended.replica id w.place w.partition (ap Asks.id_of (sym ask))
    (subst (λ (q : Body). LiesIn ended.asked.partition q) b.1 w.placed) in
    ap is_gone (sym place) ∙ gone_rises _ _ (rises opening after' record' w.call.node w.call.partition (Asks.id_of w.call.ask) w.at) gone

-- what a read noted of a cell, behind the request's sending
pub record ReadThen (rules : Rules) (opening : Maps) (record' : Record) (operation : ℕ) (part : Part) (id : BlobId) (ended : Ended) : Type 0 where
  pub then : Record
  pub at : Earlier then record'
  pub later : turns_in then < turns_in record'
  pub cell : Cell
  pub is : cell_at rules.shape (world opening then).cells id ended.replica ≡ cell
  pub sends : SentThen rules.shape then ended.asked
  pub same_operation : operation_of ended.asked.correlation ≡ operation
  pub aimed : aims_at (read_piece operation part id) ended.asked.aim ≡ true
  pub reads : (ended.asked.body ≡ Body.Get id) × (get_learns cell ≡ record { finding = ended.finding; blob = ended.blob }) ⊎ (ended.asked.body ≡ Body.Peek id) × (peek_learns cell ≡ record { finding = ended.finding; blob = ended.blob })

pub read_noted : (rules : Rules) (opening : Maps) (record' : Record) (operation : ℕ) (part : Part) (id : BlobId) (ended : Ended) → Run opening record' → IsKept rules record' → Has (ends rules.shape record') ended
    → is_failed (Some ended.finding) ≡ false → is_of (read_piece operation part id) ended.asked ≡ true
    → ReadThen rules opening record' operation part id ended
read_noted rules opening record' operation part id ended run kept h sure of =
    let w = witness rules opening record' ended run kept h sure in
    let said : Learnt = record { finding = ended.finding; blob = ended.blob } in
    let c : Cell = (world opening w.then).cells w.call.node w.call.partition (Asks.id_of w.call.ask) in
    let back : Earlier w.then record' = earlier_tail _ w.then record' w.at in
    elim (read_body operation part id ended.asked.body (and_right _ _ (and_right _ _ of))) [
      | inl b ↦ (
          let ask : Ask.Get id ≡ w.call.ask = some_same _ _ (ap ask_of (sym b) ∙ w.asks) in
          record {
            then = w.then;
            at = back;
            later = w.later;
            cell = c;
            is = sym (at_place rules (world opening w.then).cells w.call ended.asked.partition ended.replica id w.place w.partition (ap Asks.id_of (sym ask))
                (subst (λ (q : Body). LiesIn ended.asked.partition q) b w.placed));
            sends = w.sends;
            same_operation = number_true _ _ (and_left _ _ of);
            aimed = and_left _ _ (and_right _ _ of);
            reads = inl (b, get_reads c id w.reply w.stated said (subst (λ (a : Ask). Answers c a w.reply) (sym ask) w.answers) (subst (λ (q : Body). reply_says w.stated (asking_of q) w.reply ≡ Some said) b w.says) sure);
          })
      | inr b ↦ (
          let ask : Ask.Peek id ≡ w.call.ask = some_same _ _ (ap ask_of (sym b) ∙ w.asks) in
          record {
            then = w.then;
            at = back;
            later = w.later;
            cell = c;
            is = sym (at_place rules (world opening w.then).cells w.call ended.asked.partition ended.replica id w.place w.partition (ap Asks.id_of (sym ask))
                (subst (λ (q : Body). LiesIn ended.asked.partition q) b w.placed));
            sends = w.sends;
            same_operation = number_true _ _ (and_left _ _ of);
            aimed = and_left _ _ (and_right _ _ of);
            reads = inr (b, peek_reads c id w.reply w.stated said (subst (λ (a : Ask). Answers c a w.reply) (sym ask) w.answers) (subst (λ (q : Body). reply_says w.stated (asking_of q) w.reply ≡ Some said) b w.says) sure);
          })
    ]
