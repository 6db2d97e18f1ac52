use Rattle.std.proofs.Common.{ℕ, Option, sym, ◌∙◌, subst}
use Rattle.std.specs.Prelude.{IfSome}
use Rattle.cell_model.specs.Asks.{AsksInRange}
use Rattle.cell_model.specs.declared.ask.Ask.{Ask}
use Rattle.node_core.specs.Requests.{IsRequested}
use Rattle.mem_fabric.proofs.Questions.{reads_nothing, reads_request}
use Rattle.mem_fabric.proofs.asking.question_in.Goals as goal

pub returns-in-Some : goal.returns-in-Some
returns-in-Some c =
    reads_request c.args.bytes.now c.in-Some.correlation c.in-Some.partition c.in-Some.ask (sym c.in_ok-correlation.ensures.read ∙ c.in-Some.is)
    (subst (λ (o : Option (ℕ × ℕ × Ask)). IfSome o (λ request. AsksInRange request.2)) c.in-Some.is c.in_ok-correlation.ensures.range)
    (subst (λ (o : Option (ℕ × ℕ × Ask)). IfSome o (λ request. IsRequested request.2)) c.in-Some.is c.in_ok-correlation.ensures.requested)

pub returns-in-None : goal.returns-in-None
returns-in-None c = reads_nothing c.args.bytes.now (sym c.in_ok-correlation.ensures.read ∙ c.in-None.is)
