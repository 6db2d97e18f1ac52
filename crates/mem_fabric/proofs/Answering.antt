-- A request is run, with what the nodes make of its ask.
use Rattle.std.proofs.Common.{◌≡◌, ℕ, ◌+◌, ◌^◌, ◌<◌, Bool, List, [], ◌∷◌, ◌++◌, length, Some, slice_index_or, slice_get, refl, sym, ◌∙◌, subst}
use Rattle.std.proofs.lemmas.Option.{slice_get_read}
use Rattle.cell_model.specs.declared.ask.Reply.{Reply}
use Rattle.cell_model.specs.Asks.{AnswersInRange}
use Rattle.disk_core.specs.Content.{Content}
use Rattle.disk_core.specs.Homes.{Home, Out}
use Rattle.lab_nodes.specs.Nodes.{NodesState}
use Rattle.mem_fabric.specs.Asking.{Reads}
use Rattle.mem_fabric.specs.declared.asking.Question.{Question}
use Rattle.mem_fabric.specs.declared.flight.Asked.{Asked}
use Rattle.mem_fabric.specs.declared.flight.Replied.{Replied}
use Rattle.mem_fabric.specs.declared.past.Past.{Past}
use Rattle.mem_fabric.specs.Going.{AreNodesOf, GoesOn}
use Rattle.mem_fabric.specs.Network.{run_step, taken}
use Rattle.mem_fabric.specs.Past.{calls_of}
use Rattle.mem_fabric.specs.Sound.{State, AskedAs, IsSound, QuestionAt, RunsRequest}
use Rattle.mem_fabric.proofs.Goes.{AskedSo, goes_asked, may_answer}
use Rattle.mem_fabric.proofs.Sounds.{AsksAs, RunsSoundly, asks_as, steps_ran}
use Rattle.req_frame.specs.declared.frame.Body.{Body}
use Rattle.world_model.specs.declared.step.Event.{Event}
use Rattle.world_model.specs.Frames.{frame_in}
use Rattle.world_model.specs.World.{Call}
use Rattle.world_model.specs.declared.step.Did.{Did}

module _ {B D : Type 0} (bays_tell disks_tell : Type 0) (content : D → Content) (faults : D → ℕ) (home : B → Home D) (out : B → Out) (same : B → B → Type 0) where
  -- the state and the nodes after the request at a place was run
  pub record Answered (s s' : State) (place : ℕ) (stays : Bool) (nodes nodes' : NodesState B D) : Type 0 where
    pub sound : IsSound s'
    pub runs : RunsRequest s (Some place) stays Event.Quiet s'
    pub goes : GoesOn bays_tell disks_tell content faults home out same s nodes s' nodes'

  pub steps_answered : (s : State) (place : ℕ) (stays : Bool) (asked : Asked) (question : Question) (reply : Reply) (nodes nodes' : NodesState B D) (requests : List Asked) (replies : List Replied) (past : Past) (count : ℕ) → IsSound s
      → place < length s.requests → asked ≡ slice_index_or s.requests place asked → QuestionAt s place question
      → AreNodesOf s nodes → same nodes.bays nodes.bays → AskedSo bays_tell disks_tell content faults home out same nodes asked.node question.partition question.ask reply nodes' → AnswersInRange reply
      → count ≡ s.answered + 1 → count < 2 ^ 32
      → requests ≡ taken s.requests place stays
      → replies ≡ s.replies ++ record { number = s.answered; node = asked.node; frame = record { correlation = question.correlation; partition = question.partition; body = Body.Answer reply } } ∷ []
      → calls_of past ≡ record { did = Did.Delivered Event.Quiet; steps = run_step asked.number reply ∷ [] } ∷ calls_of s.past
      → Answered s (record s { requests = requests; replies = replies; answered = count; past = past }) place stays nodes nodes'
  steps_answered s place stays asked question reply nodes nodes' requests replies past count sound within here asks of e so range more small left added told_is =
      let found : slice_get s.requests place ≡ Some asked = slice_get_read s.requests (length s.requests) place asked refl within here in
      let reads : Reads (frame_in asked.frame) (Some question) = subst (λ o. AskedAs o question) found asks in
      let call : Call = record { node = asked.node; partition = question.partition; ask = question.ask } in
      let as_sent : AsksAs s place asked question reads.0 = asks_as s place asked reads.0 question sound within here reads.1 reads.3 in
      let steps : RunsSoundly s place stays (record s { requests = requests; replies = replies; answered = count; past = past }) =
      subst (λ l. RunsSoundly s place stays (record s { requests = l; replies = replies; answered = count; past = past })) (sym left)
      (subst (λ l. RunsSoundly s place stays (record s { requests = taken s.requests place stays; replies = l; answered = count; past = past })) (sym added)
      (steps_ran s place stays asked reads.0 question reply past count sound within as_sent reads.2 reads.3
      (may_answer bays_tell disks_tell content faults home out same s nodes nodes' call reply of as_sent.running so) range more small told_is)) in
      record {
        sound = steps.sound;
        runs = steps.runs;
        goes = goes_asked bays_tell disks_tell content faults home out same s (record s { requests = requests; replies = replies; answered = count; past = past }) nodes nodes' asked.number (record { from = 0; node = asked.node; frame = Some reads.0 }) call reply
            e of (refl, refl) told_is as_sent.request as_sent.called (sound.state.stopped asked.node ∙ as_sent.running) as_sent.running so;
      }
