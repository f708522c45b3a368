-- What is known of a database by name, and the faults of a protocol and its elements.
use Rattle.std.specs.Prelude.{Bool, false, not, ◌++◌, List, map, Option}
use Rattle.db_model.specs.declared.database.Database.{Database}
use Rattle.db_model.specs.declared.database.Protocol.{Protocol}
use Rattle.db_model.specs.Forms.{if_there}
use Rattle.db_model.specs.Lines.{Lines, at_line, lines_in}
use Rattle.db_model.specs.NameFaults.{block_names}
use Rattle.db_model.specs.NameIndex.{IsIndex, IsPlaces}
use Rattle.db_model.specs.Names.{Text}
use Rattle.db_model.specs.Numbering.{field_names}
use Rattle.db_model.specs.Typing.{is_among}
use Rattle.db_check.specs.declared.kind.Kind.{Kind}
use Rattle.db_check.specs.declared.kind.Kind.TheVariants as kind
use Rattle.db_check.specs.declared.known.Known.{Known}
use Rattle.db_check.specs.Own.{own_of}

pub record IsKnown (k : Known) : Type 0 where
  pub index_is : IsIndex k.database.now k.names.now
  pub shows_are : IsPlaces (map (λ d. d.name) k.database.now.show_templates) k.shows.now
  pub sums_are : IsPlaces (map (λ d. d.name) k.database.now.sum_templates) k.sums.now

-- a protocol is shown by a summary template that isn't declared
abbrev pub lacks_summary : Database → Option Text → Bool
lacks_summary db showsum = not (if_there (λ name. is_among name (map (λ d. d.name) db.sum_templates)) showsum)

abbrev pub summary_fails : Database → Kind → Option Text → Bool
summary_fails db kind.Names showsum = lacks_summary db showsum
summary_fails db kind.Types showsum = false
summary_fails db kind.Numbers showsum = false
summary_fails db kind.Tables showsum = false

-- the lines of a protocol itself and of its elements, whose fields have these names
abbrev pub lines_by : Database → List Text → Kind → Protocol → Lines
lines_by db fields k p = at_line p.line (summary_fails db k p.showsum) ++ lines_in (own_of db fields (block_names p) k) p

abbrev pub protocol_lines : Database → Kind → Protocol → Lines
protocol_lines db k p = lines_by db (field_names p) k p
