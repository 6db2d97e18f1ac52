use Rattle.field_codec.proofs.Fronts.{blob_spelled, length-blob_text}
use Rattle.field_codec.proofs.Spells.{apart}
use Rattle.field_codec.proofs.laws.blob_laws.Goals as goal

pub returns-clause-spelled : goal.returns-clause-spelled
returns-clause-spelled c = λ bytes blob rest fits e. let t = blob_spelled.takes bytes blob rest fits e in (t.0.parts, t.1)

pub returns-clause-read : goal.returns-clause-read
returns-clause-read c = blob_spelled.again

pub returns-clause-size : goal.returns-clause-size
returns-clause-size c = length-blob_text

pub returns-clause-apart : goal.returns-clause-apart
returns-clause-apart c = apart blob_spelled
