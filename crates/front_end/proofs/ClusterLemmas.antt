-- What a run over a network leaves behind, from what its last calls left.
use Rattle.std.proofs.Common.{◌≡◌, ◌⊎◌, ◌++◌, ◌∙◌, inl, inr, ℕ, List, [], false, true, Option, Some, sym, ap, subst, append_assoc}
use Rattle.std.proofs.lemmas.List.{append_cancel_left}
use Rattle.mem_fabric.specs.Network.{Network, nothing}
use Rattle.mem_fabric.specs.Played.{Act, AllMay, all_acted, moves_of, PlaysBy, Plays, IsPlayed}
use Rattle.mem_fabric.specs.PlayedLaws.{plays_on}
use Rattle.router_core.specs.Fits.{RouterView}
use Rattle.router_core.specs.Stands.{Stands}
use Rattle.router_core.specs.Ties.{Ties}
use Rattle.router_core.proofs.TieLaws.{tie_call, no_calls, items_none}
use Rattle.world_model.specs.declared.offers.GivenMove.{GivenMove}
use Rattle.world_model.specs.declared.order.Refusal.{Refusal}
use Rattle.world_model.specs.declared.shape.Shape.{Shape}
use Rattle.world_model.specs.declared.step.Called.{Called}
use Rattle.world_model.specs.Fabric.{IsOpening, Tells}
use Rattle.world_model.specs.Record.{Record}
use Rattle.world_model.specs.Told.{told}
use Rattle.world_model.specs.World.{Cells, Run}
use Rattle.front_end.specs.Disks.{Disks, LeavesLater}
use Rattle.front_end.specs.Run.{HasFinished, HasStopped, WasCutOff, HasRun, IsFront, Outside, Wrote}
use Rattle.front_end.specs.Transcript.{refusal_line}
use Rattle.front_end.proofs.LaterLemmas.{acted_later}
use Rattle.front_end.specs.Session.{ties_of}
use Rattle.front_end.proofs.RecordLemmas.{RunsAreSafe, recorded, finished_map, stopped_map, cut_map}

-- A network that told no call, and then the one of its opening, ties a router to nothing.
pub opened_tie : (router : RouterView) (before now : Option (List Called)) → before ≡ Some [] → Tells before now IsOpening → Stands router [] → ties_of router now []
opened_tie router before now none opened stands =
    tie_call (Stands router) (Stands router) IsOpening before now [] opened (λ call did r so. subst (Stands router) (sym (ap (λ (l : Record). l ++ r) (items_none call did))) so)
    (subst (λ (o : Option (List Called)). Ties (Stands router) o []) (sym none) (no_calls (Stands router) stands))

-- the moves that were given meanwhile are those that were made
abbrev pub Went : Shape → List GivenMove → List GivenMove → List Called → Type 0
Went shape given given' calls = (moves : List GivenMove) × (given' ≡ given ++ moves) × IsPlayed shape moves calls

-- from the cells that the disks are known to have stood for, what was told is a run
abbrev pub RunsOnDisks : Disks → List Called → Type 0
RunsOnDisks disks calls = (opening : Cells) → disks.opens calls opening → Run opening (told calls)

pub ran_finished : (shape : Shape) (disks : Disks) (router : RouterView) (given given' : List GivenMove) (calls : List Called) (status status' : ℕ) (o : Outside) → RunsAreSafe → router.shape ≡ shape → Went shape given given' calls → RunsOnDisks disks calls → disks.leaves calls
    → status' ≡ status → HasFinished shape (ties_of router (Some calls)) status o → HasRun shape disks given given' status' o
ran_finished shape disks router given given' calls status status' o safe same went run left is h =
    subst (λ (n : ℕ). HasRun shape disks given given' n o) (sym is)
    (inl (record { moves = went.0; gave = went.1; run = inl (finished_map _ _ _ status o (λ marks w. recorded shape disks.opens disks.leaves router went.0 calls marks safe same went.2 run left w) h) }))

pub ran_stopped : (shape : Shape) (disks : Disks) (router : RouterView) (given given' : List GivenMove) (calls : List Called) (status : ℕ) (o : Outside) → RunsAreSafe → router.shape ≡ shape → Went shape given given' calls → RunsOnDisks disks calls → disks.leaves calls
    → status ≡ 3 → HasStopped shape (ties_of router (Some calls)) o o.words_new → HasRun shape disks given given' status o
ran_stopped shape disks router given given' calls status o safe same went run left is h =
    inl (record { moves = went.0; gave = went.1; run = inr (inl (is, stopped_map _ _ _ o o.words_new (λ marks w. recorded shape disks.opens disks.leaves router went.0 calls marks safe same went.2 run left w) h)) })

pub ran_cut : (shape : Shape) (disks : Disks) (router : RouterView) (given given' : List GivenMove) (calls : List Called) (status : ℕ) (o : Outside) → RunsAreSafe → router.shape ≡ shape → Went shape given given' calls → RunsOnDisks disks calls → disks.leaves calls
    → status ≡ 4 → WasCutOff shape (ties_of router (Some calls)) o → HasRun shape disks given given' status o
ran_cut shape disks router given given' calls status o safe same went run left is h =
    inl (record { moves = went.0; gave = went.1; run = inr (inr (is, cut_map _ _ _ o (λ marks w. recorded shape disks.opens disks.leaves router went.0 calls marks safe same went.2 run left w) h)) })

-- What holds behind the calls of a network that began with nothing holds later, where further acts were done since.
pub later : (leaves : List Called → Type 0) (given between given' : List GivenMove) (begun now then : Network) (moves : List GivenMove) (acts since : List Act) → begun ≡ nothing → between ≡ given ++ moves → PlaysBy acts given begun between now → PlaysBy since between now given' then
    → leaves then.calls → LeavesLater leaves (moves ++ moves_of now since) now.calls
later leaves given between given' begun now then moves acts since fresh gave before behind left =
    let all = plays_on given begun between now given' then false false (acts, (λ w. absurd cc), before) (since, (λ w. absurd cc), behind) in
    let more = acted_later now since in
    let calls : then.calls ≡ more.0 ++ now.calls = ap (λ (n : Network). n.calls) behind.network ∙ more.1 in
    record {
      since = more.0;
      acts = all.0;
      may = subst (λ n. AllMay n all.0) fresh all.2.may;
      took = append_cancel_left given (moves ++ moves_of now since) (moves_of begun all.0) (sym (append_assoc given moves (moves_of now since)) ∙ ap (λ (l : List GivenMove). l ++ moves_of now since) (sym gave) ∙ sym behind.moves ∙ all.2.moves) ∙ ap (λ n. moves_of n all.0) fresh;
      told = sym calls ∙ ap (λ (n : Network). n.calls) all.2.network ∙ ap (λ n. (all_acted n all.0).calls) fresh;
      left = subst leaves calls left;
    }

pub ran_starved : (shape : Shape) (disks : Disks) (router : RouterView) (given between given' : List GivenMove) (begun now then : Network) (words : Option (ℕ → ℕ)) (status : ℕ) (o : Outside) → RunsAreSafe → router.shape ≡ shape → Went shape given between now.calls
    → RunsOnDisks disks now.calls → begun ≡ nothing → Plays given begun between now true → Plays between now given' then false → disks.leaves then.calls → status ≡ 6 → HasStopped shape (ties_of router (Some now.calls)) o words → HasRun shape disks given given' status o
ran_starved shape disks router given between given' begun now then words status o safe same went run fresh before behind left is h =
    let stays = later disks.leaves given between given' begun now then went.0 before.0 behind.0 fresh went.1 before.2 behind.2 left in
    inr (inl (
      is,
      record {
        moves = went.0;
        since = moves_of now behind.0;
        gave = behind.2.moves ∙ ap (λ (l : List GivenMove). l ++ moves_of now behind.0) went.1 ∙ append_assoc given went.0 (moves_of now behind.0);
        words = words;
        stopped = stopped_map _ _ _ o words (λ marks w. recorded shape disks.opens (LeavesLater disks.leaves (went.0 ++ moves_of now behind.0)) router went.0 now.calls marks safe same went.2 run stays w) h;
      },
    ))

-- what comes of the line of a disk that isn't opened: it was written, or a front of it, or there was no memory to spell it
abbrev pub SpellsRefusal : Refusal → ℕ → Outside → Type 0
SpellsRefusal refusal status o = ((status ≡ 9) × Wrote o.taken_old o.taken_new (λ wrote. wrote ≡ refusal_line refusal)) ⊎ (((status ≡ 4) × Wrote o.taken_old o.taken_new (IsFront (refusal_line refusal))) ⊎ ((status ≡ 6) × (o.taken_new ≡ o.taken_old)))

pub turned_away : (shape : Shape) (disks : Disks) (given given' : List GivenMove) (status : ℕ) (o : Outside) (refusal : Refusal) → o.left_new ≡ o.left_old → o.words_new ≡ o.words_old → given' ≡ given → disks.stay → disks.refuses refusal → SpellsRefusal refusal status o
    → HasRun shape disks given given' status o
turned_away shape disks given given' status o refusal left words moves stay cause (inl told) =
    inr (inr (inr (record { source = left; random = words; moves = moves; stay = stay; refusal = refusal; cause = cause; answer = inl told })))
turned_away shape disks given given' status o refusal left words moves stay cause (inr (inl told)) =
    inr (inr (inr (record { source = left; random = words; moves = moves; stay = stay; refusal = refusal; cause = cause; answer = inr told })))
turned_away shape disks given given' status o refusal left words moves stay cause (inr (inr told)) =
    inr (inr (inl (inr told.0, record { untouched = record { source = left; sink = told.1; random = words }; moves = moves; stay = stay })))
