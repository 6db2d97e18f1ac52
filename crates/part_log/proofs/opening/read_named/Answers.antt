use Rattle.std.proofs.Common.{◌≡◌, inl, inr, List, Option, IfSome, IfOk, ◌∙◌, subst, rules}
use Rattle.log_manifest.specs.declared.manifest.LogSettings.{LogSettings}
use Rattle.log_manifest.specs.declared.manifest.Manifest.{Manifest}
use Rattle.log_manifest.specs.Manifests.{IsManifest, manifest_text}
use Rattle.part_log.specs.Opened.{IsOpened}
use Rattle.part_log.specs.Records.{Placed}
use Rattle.part_log.specs.Scan.{found_of, TakesAll}
use Rattle.part_log.proofs.Scanning.{damaged_there}
use Rattle.part_log.proofs.Reopening.{gate_is, damaged_named}
use Rattle.part_log.proofs.opening.read_named.Goals as goal

pub returns-in_default-clause-damaged : goal.returns-in_default-clause-damaged
returns-in_default-clause-damaged g c = λ at is t. inl (record {
  held = c.args.text.now;
  value = c.requires.value t;
  none = λ m good same. let found = c.in_ok-manifest.ensures.only m good same in let none = c.in_default.is in absurd (cc (found, none));
  at = damaged_there c.place.result at is ∙ gate_is c.args.slots (g.D.Disk.content c.args.disk.now).seen c.place.result c.requires.base (c.requires.loaded t) c.place.ensures;
})

pub returns-clause-opened : goal.returns-clause-opened
returns-clause-opened g c =
    let same : c.in-Some.manifest.settings ≡ c.args.settings = search rules in
    subst (λ (s : LogSettings). IfOk c.read_log.result (λ opened. g.D.Disk.tells → (placed : List Placed) × IsOpened s (g.D.Disk.content c.args.disk.now).seen opened (g.D.Disk.content c.read_log.new.disk) placed
    × TakesAll g.C.Collect.takes c.args.collector.now (found_of placed) c.read_log.new.collector)) same c.read_log.ensures.opened

pub returns-clause-damaged : goal.returns-clause-damaged
returns-clause-damaged g c = λ at is t.
    let same : c.in-Some.manifest.settings ≡ c.args.settings = search rules in
    let found = subst (λ (o : Option Manifest). IfSome o (λ m. IsManifest m × (c.args.text.now ≡ manifest_text m))) c.in-Some.is c.in_ok-manifest.ensures.found in
    inr (damaged_named c.args.settings (g.D.Disk.content c.args.disk.now).seen c.in-Some.manifest c.args.text.now at (c.requires.value t) found.1 found.0 same (c.read_log.ensures.damaged at is t))

pub returns-clause-settings : goal.returns-clause-settings
returns-clause-settings g c = λ other is t. absurd (c.read_log.ensures.settings other is)
