-- What the words of a command line set.
use Rattle.std.specs.Prelude.{◌≡◌, ◌≤◌, ◌+◌, ◌-◌, ◌/◌, ◌^◌, ℕ, List, ◌∷◌, Option, None, Some, min, max, codes}
use Rattle.world_model.specs.declared.shape.LogNumbers.{LogNumbers}
use Rattle.world_model.specs.declared.shape.Shape.{Shape}
use Rattle.run_words.specs.declared.options.Name.TheVariants.{Nodes, Replicas, Partitions, Put, Get, Delete, Segment, Segments, Index, Ids, Folder, Seed}
use Rattle.run_words.specs.declared.options.Given.{Given}
use Rattle.run_words.specs.declared.settings.Settings.{Settings}
use Rattle.run_words.specs.Options.{AreOptions, AreOnce, number_for, path_for}
use Rattle.run_words.specs.Pathnames.{Text}

-- the given number, or the default where none is given
abbrev pub number_or : Option ℕ → ℕ → ℕ
number_or (Some number) default = number
number_or None default = default

-- the number is the given one or the default, and lies in its range
pub record IsNumber (given : Option ℕ) (default low high number : ℕ) : Type 0 where
  pub is : number ≡ number_or given default
  pub least : low ≤ number
  pub most : number ≤ high

-- more than half of the replicas
abbrev pub majority : ℕ → ℕ
majority replicas = replicas / 2 + 1

-- the least bytes of a segment, which has room for a chunk and its record
abbrev pub least_segment : ℕ → ℕ
least_segment chunk = max 4096 (chunk + 1200)

-- the numbers that the options give for the logs of a cluster with chunks of this size
pub record GivesLog (options : List Given) (chunk : ℕ) (log : LogNumbers) : Type 0 where
  pub segment : IsNumber (number_for options Segment) 1048576 (least_segment chunk) 16777216 log.segment
  pub segments : IsNumber (number_for options Segments) 8 2 64 log.segments
  pub index : IsNumber (number_for options Index) 256 2 4096 log.index

-- the shape that the options give
pub record GivesShape (options : List Given) (shape : Shape) : Type 0 where
  pub nodes : IsNumber (number_for options Nodes) 3 1 9 shape.nodes
  pub replicas : IsNumber (number_for options Replicas) (min 3 shape.nodes) 1 shape.nodes shape.replicas
  pub partitions : IsNumber (number_for options Partitions) 4 1 64 shape.partitions
  pub put : IsNumber (number_for options Put) (majority shape.replicas) 1 shape.replicas shape.put
  pub get : IsNumber (number_for options Get) (majority shape.replicas) 1 shape.replicas shape.get
  pub delete : IsNumber (number_for options Delete) (majority shape.replicas) 1 shape.replicas shape.delete
  pub chunk : shape.chunk ≡ 65536
  pub log : GivesLog options shape.chunk shape.log

-- the given pathname, or the default where none is given
abbrev pub path_or : Option Text → Text → Text
path_or (Some path) default = path
path_or None default = default

-- the settings that the options give
pub record GivesSettings (options : List Given) (settings : Settings) : Type 0 where
  pub shape : GivesShape options settings.shape
  pub ids : settings.ids ≡ number_for options Ids
  pub seed : IsNumber (number_for options Seed) 0 0 (2 ^ 64 - 1) settings.seed
  pub folder : settings.folder ≡ path_or (path_for options Folder) (codes "ambry-data")

-- The words are `run` and then options, each at most once and in any order, that give these settings.
pub record Spells (settings : Settings) (words : List Text) : Type 0 where
  pub options : List Given
  pub rest : List Text
  pub run : words ≡ codes "run" ∷ rest
  pub spelled : AreOptions options rest
  pub once : AreOnce options
  pub given : GivesSettings options settings
