-- The examples of expressions, computed.
use denote.Hole.Carrier.{hidden}
use Rattle.std.proofs.Common.{refl}
use Rattle.db_model.specs.declared.element.Element.TheBlock.{hidden-the_row-Element-0, hidden-the_row-Case-1}
use Rattle.db_model.specs.declared.expression.Expr.TheBlock.{hidden-the_row-Expr-0, hidden-the_row-Expr-1}
use Rattle.db_model.specs.Chain.{chain}
use Rattle.db_model.specs.Decoding.{decoding, dec}
use Rattle.db_model.specs.Elements.{means, list}
use Rattle.db_model.specs.Expression.{val}
use Rattle.db_model.specs.Extent.{extent}
use Rattle.db_model.specs.Numbering.{counts_of, names_of, field_names}
use Rattle.db_model.specs.Typing.{type_of}
use Rattle.db_examples.specs.TableSample.{table_db}
use Rattle.db_examples.specs.ValueExamples.{OperatorsGive, FormsGive, SpecialsGive, NamesMean, TypesFit}

-- what computing them opens
abbrev pub opened : Unit {0}
unfolding extent val counts_of names_of field_names means list chain decoding dec type_of table_db hidden-the_row-Element-0 hidden-the_row-Case-1 hidden-the_row-Expr-0 hidden-the_row-Expr-1 hidden
opened = tt

pub operators_give : OperatorsGive
unfolding opened
operators_give = refl

pub forms_give : FormsGive
unfolding opened
forms_give = refl

pub specials_give : SpecialsGive
unfolding opened
specials_give = refl

pub names_mean : NamesMean
unfolding opened
names_mean = refl

pub types_fit : TypesFit
unfolding opened
types_fit = refl
