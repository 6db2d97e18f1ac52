use Rattle.std.proofs.Common.{[], refl}
use Rattle.field_codec.specs.Reading.{blob_at, front_at, id_at, sized_at}
use Rattle.find_token.specs.Tokens.{token_at}
use Rattle.req_frame.specs.Pages.{token_behind}
use Rattle.req_frame.specs.Reading.{answer_at, body_at, delete_at, find_at, frame_among, frame_at, own_id_at, put_at, reply_at, whole_body_at}
use Rattle.world_model.specs.Pieces.{metadata_of}
use Rattle.world_model.specs.Rules.{usual_rules}
use Rattle.model_examples.specs.Cancel
use Rattle.model_examples.specs.Chunks
use Rattle.model_examples.specs.Delete
use Rattle.model_examples.specs.Drain
use Rattle.model_examples.specs.Find
use Rattle.model_examples.specs.Merge
use Rattle.model_examples.specs.Retry
use Rattle.model_examples.proofs.ExampleSearch.{comes_to_pass}
use Rattle.model_examples.proofs.examples_come_to_pass.Goals as goal

pub returns-clause-chunks : goal.returns-clause-chunks
unfolding frame_among frame_at whole_body_at body_at put_at delete_at own_id_at answer_at reply_at id_at blob_at front_at sized_at metadata_of
returns-clause-chunks c = comes_to_pass (usual_rules Chunks.shape) [] Chunks.lines refl

pub returns-clause-delete : goal.returns-clause-delete
unfolding frame_among frame_at whole_body_at body_at put_at delete_at own_id_at answer_at reply_at id_at blob_at front_at sized_at metadata_of
returns-clause-delete c = comes_to_pass (usual_rules Delete.shape) [] Delete.lines refl

pub returns-clause-retry : goal.returns-clause-retry
unfolding frame_among frame_at whole_body_at body_at put_at delete_at own_id_at answer_at reply_at id_at blob_at front_at sized_at metadata_of
returns-clause-retry c = comes_to_pass (usual_rules Retry.shape) [] Retry.lines refl

pub returns-clause-cancel : goal.returns-clause-cancel
unfolding frame_among frame_at whole_body_at body_at put_at delete_at own_id_at answer_at reply_at id_at blob_at front_at sized_at metadata_of
returns-clause-cancel c = comes_to_pass (usual_rules Cancel.shape) [] Cancel.lines refl

pub returns-clause-drain : goal.returns-clause-drain
unfolding frame_among frame_at whole_body_at body_at put_at delete_at own_id_at answer_at reply_at id_at blob_at front_at sized_at metadata_of
returns-clause-drain c = comes_to_pass (usual_rules Drain.shape) [] Drain.lines refl

pub returns-clause-merge : goal.returns-clause-merge
unfolding frame_among frame_at whole_body_at body_at put_at delete_at own_id_at answer_at reply_at id_at blob_at front_at sized_at metadata_of
returns-clause-merge c = comes_to_pass (usual_rules Merge.shape) [] Merge.lines refl

pub returns-clause-merged : goal.returns-clause-merged
unfolding frame_among frame_at whole_body_at body_at put_at delete_at own_id_at answer_at reply_at id_at blob_at front_at sized_at metadata_of
returns-clause-merged c = refl

pub returns-clause-find : goal.returns-clause-find
unfolding frame_among frame_at whole_body_at body_at find_at token_behind token_at
returns-clause-find c = comes_to_pass (usual_rules Find.shape) Find.opening Find.lines refl

pub returns-clause-gone : goal.returns-clause-gone
unfolding frame_among frame_at whole_body_at body_at find_at token_behind token_at
returns-clause-gone c = refl

pub returns-clause-held : goal.returns-clause-held
unfolding frame_among frame_at whole_body_at body_at find_at token_behind token_at
returns-clause-held c = refl
