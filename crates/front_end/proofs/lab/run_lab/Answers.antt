use Rattle.std.proofs.Common.{◌≡◌, ◌⊎◌, ◌++◌, ◌∷◌, [], ap, subst, refl, inl, inr, Err}
use Rattle.run_words.specs.declared.settings.Settings.{Settings}
use Rattle.outside.specs.Words.{started}
use Rattle.front_end.specs.Disks.{disks_of}
use Rattle.front_end.specs.Run.{HasRun, IsUntouched, outside_of}
use Rattle.front_end.proofs.lab.run_lab.Goals as goal

pub returns-in-Ok-clause-run : goal.returns-in-Ok-clause-run
returns-in-Ok-clause-run g c = λ settings spells.
    let D = g.B.Disk.Disk in
    let given = g.M.Moves.given c.args.moves.now in
    let given' = g.M.Moves.given c.run_settings.new.moves in
    let status = c.run_settings.result in
    let left = g.S.Source.left c.args.input.now in
    let left' = g.S.Source.left c.run_settings.new.input in
    let taken = g.K.Sink.taken c.args.output.now in
    let taken' = g.K.Sink.taken c.run_settings.new.output in
    let words = g.U.Random.ahead c.args.random.now in
    let words' = g.U.Random.ahead c.run_settings.new.random in
    let seeds = g.M.Moves.seeds c.args.moves.now in
    let seeds' = g.M.Moves.seeds c.run_settings.new.moves in
    let bays = c.args.bays.now in
    let bays' = c.run_settings.new.bays in
    let ran = subst (λ (s : Settings). HasRun s.shape (disks_of g.B.Bays.tells D.tells D.content D.size D.faults g.B.Bays.home s.shape s.folder bays bays') given given' status (outside_of left left' taken taken' (started g.U.Random.seeded s.ids words) words') × (seeds' ≡ seeds ++ s.seed ∷ []) ⊎ (status ≡ 5) × (given' ≡ given) × (seeds' ≡ seeds) × (bays' ≡ bays) × IsUntouched (outside_of left left' taken taken' words words')) (c.in-Ok.ensures.only settings spells) c.run_settings.ensures.run in
    elim ran [
      | inl r ↦ inl r
      | inr r ↦ inr (inl r.0, r.1, r.2, r.3, r.4)
    ]

pub returns-in-Err-Usage-clause-run : goal.returns-in-Err-Usage-clause-run
returns-in-Err-Usage-clause-run g c = λ settings spells. absurd (c.in-Err-Usage.ensures.usage (ap Err c.in-Err-Usage.field-0-is) settings spells)

pub returns-in-Err-Memory-clause-run : goal.returns-in-Err-Memory-clause-run
returns-in-Err-Memory-clause-run g c = λ settings spells. inr (inr refl, refl, refl, refl, record { source = refl; sink = refl; random = refl })
