-- Words give the settings of one run at most.
use Rattle.std.proofs.Common.{◌≡◌, ◌∙◌, ℕ, Option, List, [], ◌∷◌, sym, ap, subst, min, refl}
use Rattle.world_model.specs.declared.shape.Shape.{Shape}
use Rattle.run_words.specs.declared.options.Given.{Given}
use Rattle.run_words.specs.declared.settings.Settings.{Settings}
use Rattle.run_words.specs.Options.{AreOptions}
use Rattle.run_words.specs.Pathnames.{Text}
use Rattle.run_words.specs.Settings.{IsNumber, number_or, majority, GivesShape, GivesSettings, Spells}
use Rattle.run_words.proofs.ReadLemmas.{one_reading}

-- the same number, where the defaults are the same
same_number : {given : Option ℕ} {a b low high low_too high_too n m : ℕ} → a ≡ b → IsNumber given a low high n → IsNumber given b low_too high_too m → n ≡ m
same_number {given} same first second = first.is ∙ ap (number_or given) same ∙ sym second.is

-- a shape of these numbers
abbrev shape_with : (nodes replicas partitions put get delete chunk segment segments index : ℕ) → Shape
shape_with nodes replicas partitions put get delete chunk segment segments index = record {
  nodes = nodes;
  replicas = replicas;
  partitions = partitions;
  put = put;
  get = get;
  delete = delete;
  chunk = chunk;
  log = record { segment = segment; segments = segments; index = index };
}

abbrev shape_again : Shape → Shape
shape_again s = shape_with s.nodes s.replicas s.partitions s.put s.get s.delete s.chunk s.log.segment s.log.segments s.log.index

one_shape : (options : List Given) (a b : Shape) → GivesShape options a → GivesShape options b → a ≡ b
one_shape options a b first second =
    let nodes : a.nodes ≡ b.nodes = same_number refl first.nodes second.nodes in
    let replicas : a.replicas ≡ b.replicas = same_number (ap (min 3) nodes) first.replicas second.replicas in
    let partitions : a.partitions ≡ b.partitions = same_number refl first.partitions second.partitions in
    let put : a.put ≡ b.put = same_number (ap majority replicas) first.put second.put in
    let get : a.get ≡ b.get = same_number (ap majority replicas) first.get second.get in
    let delete : a.delete ≡ b.delete = same_number (ap majority replicas) first.delete second.delete in
    let chunk : a.chunk ≡ b.chunk = first.chunk ∙ sym second.chunk in
    let segment : a.log.segment ≡ b.log.segment = same_number refl first.log.segment second.log.segment in
    let segments : a.log.segments ≡ b.log.segments = same_number refl first.log.segments second.log.segments in
    let index : a.log.index ≡ b.log.index = same_number refl first.log.index second.log.index in
    let same : shape_again a ≡ shape_again b = rw (nodes, replicas, partitions, put, get, delete, chunk, segment, segments, index) refl in
    same

abbrev settings_with : Shape → Option ℕ → ℕ → Text → Settings
settings_with shape ids seed folder = record { shape = shape; ids = ids; seed = seed; folder = folder }

one_setting : (options : List Given) (a b : Settings) → GivesSettings options a → GivesSettings options b → a ≡ b
one_setting options a b first second =
    let shape : a.shape ≡ b.shape = one_shape options a.shape b.shape first.shape second.shape in
    let ids : a.ids ≡ b.ids = first.ids ∙ sym second.ids in
    let seed : a.seed ≡ b.seed = same_number refl first.seed second.seed in
    let folder : a.folder ≡ b.folder = first.folder ∙ sym second.folder in
    let same : settings_with a.shape a.ids a.seed a.folder ≡ settings_with b.shape b.ids b.seed b.folder = rw (shape, ids, seed, folder) refl in
    same

pub one_run : (first second : Settings) (words : List Text) → Spells first words → Spells second words → first ≡ second
one_run first second words a b =
    let rest : a.rest ≡ b.rest = ap tail_of (sym a.run ∙ b.run) in
    let options : a.options ≡ b.options = one_reading a.options b.options b.rest (subst (λ (ws : List Text). AreOptions a.options ws) rest a.spelled) b.spelled in
    one_setting b.options first second (subst (λ (gs : List Given). GivesSettings gs first) options a.given) b.given
  where
    tail_of : List Text → List Text
    tail_of [] = []
    tail_of (word ∷ more) = more
