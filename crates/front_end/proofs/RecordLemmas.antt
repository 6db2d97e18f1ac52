-- The record behind a run.
use Rattle.std.proofs.Common.{◌≡◌, ℕ, List, Option, refl, subst}
use Rattle.mem_fabric.specs.Played.{IsPlayed}
use Rattle.router_core.specs.Fits.{RouterView}
use Rattle.router_core.specs.Removals.{DeletesWhatFailed}
use Rattle.router_core.specs.Stages.{simple_rules}
use Rattle.router_core.specs.Stands.{Stands}
use Rattle.router_core.specs.Ties.{IsWoven}
use Rattle.world_model.specs.declared.history.HistoryMark.{HistoryMark}
use Rattle.world_model.specs.declared.offers.GivenMove.{GivenMove}
use Rattle.world_model.specs.declared.shape.Shape.{Shape}
use Rattle.world_model.specs.declared.step.Called.{Called}
use Rattle.world_model.specs.Record.{Record}
use Rattle.world_model.specs.Router.{IsKept}
use Rattle.world_model.specs.Rules.{Rules}
use Rattle.world_model.specs.Safe.{DrawsNew, IsSound, Safe}
use Rattle.world_model.specs.Told.{told, weave}
use Rattle.world_model.specs.World.{Cells, Run}
use Rattle.world_model.proofs.ToldLaws.{woven_runs}
use Rattle.front_end.specs.Run.{HasFinished, HasStopped, WasCutOff, IsRecorded, Outside}
use Rattle.front_end.proofs.TimelyLemmas.{open_in_time}

abbrev pub RunsAreSafe : Type 0
RunsAreSafe = (rules : Rules) (opening : Cells) (record' : Record) → IsSound opening → DrawsNew opening record' → Run opening record' → IsKept rules record' → Safe rules opening record'

-- what was told of calls, from the cells that the disks are known to have stood for, and what holds of the disks behind them
pub recorded : (shape : Shape) (opens : List Called → Cells → Type 0) (leaves : List Called → Type 0) (router : RouterView) (moves : List GivenMove) (calls : List Called) (marks : List HistoryMark) → RunsAreSafe → router.shape ≡ shape → IsPlayed shape moves calls
    → ((opening : Cells) → opens calls opening → Run opening (told calls)) → leaves calls → IsWoven (Stands router) calls marks → IsRecorded shape opens leaves moves marks
recorded shape opens leaves router moves calls marks safe same played run left w =
    let r = weave w.placed calls in
    let ran : (opening : Cells) → opens calls opening → Run opening r = λ opening held. woven_runs opening w.placed calls w.stands.only (run opening held) in
    let kept : IsKept (simple_rules shape) r = subst (λ (s : Shape). IsKept (simple_rules s) r) same w.so.going.kept in
    record {
      calls = calls;
      played = played;
      record' = r;
      woven = record { placed = w.placed; stands = w.stands; same = w.same; so = refl };
      run = ran;
      kept = kept;
      safe = λ opening held sound new. safe (simple_rules shape) opening r sound new (ran opening held) kept;
      in_time = open_in_time shape r;
      deletes = subst (λ (s : Shape). DeletesWhatFailed s r) same w.so.going.deletes;
      left = left;
    }

-- a tie seen otherwise
pub finished_map : (shape : Shape) (tie tie' : List HistoryMark → Type 0) (status : ℕ) (o : Outside) → ((marks : List HistoryMark) → tie marks → tie' marks) → HasFinished shape tie status o → HasFinished shape tie' status o
finished_map shape tie tie' status o f h = record {
  lines = h.lines;
  entries = h.entries;
  ending = h.ending;
  past = h.past;
  ended_last = h.ended_last;
  all_ended = h.all_ended;
  status_is = h.status_is;
  read = h.read;
  wrote = h.wrote;
  draws = h.draws;
  tied = f _ h.tied;
}

pub stopped_map : (shape : Shape) (tie tie' : List HistoryMark → Type 0) (o : Outside) (words : Option (ℕ → ℕ)) → ((marks : List HistoryMark) → tie marks → tie' marks) → HasStopped shape tie o words → HasStopped shape tie' o words
stopped_map shape tie tie' o words f h =
    record { lines = h.lines; entries = h.entries; past = h.past; ended_last = h.ended_last; read = h.read; wrote = h.wrote; draws = h.draws; tied = f _ h.tied }

pub cut_map : (shape : Shape) (tie tie' : List HistoryMark → Type 0) (o : Outside) → ((marks : List HistoryMark) → tie marks → tie' marks) → WasCutOff shape tie o → WasCutOff shape tie' o
cut_map shape tie tie' o f h = record { lines = h.lines; entries = h.entries; past = h.past; ended_last = h.ended_last; read = h.read; wrote = h.wrote; draws = h.draws; tied = f _ h.tied }
