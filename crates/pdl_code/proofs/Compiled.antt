-- The code of a checked database is its code.
use Rattle.std.specs.Prelude.{◌≡◌, ℕ, zero, suc, ◌+◌, List, [], ◌∷◌, ◌++◌, map, slice_get, Some, None}
use Rattle.std.proofs.Common.{refl, sym, ap, subst, ◌∙◌, arith}
use Rattle.db_model.specs.declared.database.Database.{Database}
use Rattle.db_model.specs.declared.database.Protocol.{Protocol}
use Rattle.db_model.specs.declared.database.NamedBlock.{NamedBlock}
use Rattle.db_model.specs.declared.limits.TheConstants.{MOST_NESTED, MOST_PROTOCOLS, MOST_VARIABLES, MOST_TABLES, MOST_SHOW_TEMPLATES, MOST_SUM_TEMPLATES}
use Rattle.db_model.specs.BlockFaults.{includes_in}
use Rattle.db_model.specs.Chain.{elements_of}
use Rattle.db_model.specs.Elements.{included, list}
use Rattle.db_model.specs.Lines.{Lines, over, lines_of, lines_in}
use Rattle.db_model.specs.NumberFaults.{own_43, tables_43, template_43, too_many, fault_43}
use Rattle.db_model.specs.Numbering.{none, counts_in, fields_in, blocks_in, names_at, field_names}
use Rattle.db_model.specs.Objection.{objection, IsChecked}
use Rattle.db_model.proofs.Accepted.{append_front, append_back, no_faults}
use Rattle.db_laws.proofs.Includes.{names_fit, over_none}
use Rattle.pdl_code.specs.declared.code.Code.{Code}
use Rattle.pdl_code.specs.Coding.{codes_in, ended, block_codes, own_code, proto_code, protocol_codes}
use Rattle.pdl_code.specs.Does.{HasCode, IsCodeOf}
use Rattle.pdl_code.proofs.Named.{each_of_all, of_name}
use Rattle.pdl_code.proofs.Pieces.{to_end}
use Rattle.pdl_code.proofs.Standing.{HasAt, has_first}
use Rattle.pdl_code.proofs.Trees.{Included, of_list}

own_stands : (db : Database) (q : ℕ) (p : Protocol) → HasAt (proto_code db q p).ops 0 (ended (codes_in db q (elements_of p) none))
unfolding proto_code
own_stands db q p = has_first (own_code db q p) (block_codes db q (blocks_in p.format) (counts_in (fields_in p.format)))

-- the numbers of a protocol's elements are in their limits
limits_of : (db : Database) (q : ℕ) (p : Protocol) → objection db ≡ None → slice_get db.protocols q ≡ Some p → lines_in own_43 p ≡ []
unfolding fault_43
limits_of db q p e is =
    let few : Lines = too_many MOST_PROTOCOLS (map (λ d. d.line) db.protocols) ++ (too_many MOST_VARIABLES (map (λ d. d.line) db.variables) ++ (too_many MOST_TABLES (map (λ d. d.line) db.tables) ++ (too_many MOST_SHOW_TEMPLATES (map (λ d. d.line) db.show_templates) ++ too_many MOST_SUM_TEMPLATES (map (λ d. d.line) db.sum_templates)))) in
    let rest : Lines = over (lines_in own_43) db.protocols ++ few in
    let e1 : over template_43 db.show_templates ++ rest ≡ [] = append_back (tables_43 0 db.tables) (over template_43 db.show_templates ++ rest) (no_faults db e).none_43 in
    let e2 : rest ≡ [] = append_back (over template_43 db.show_templates) rest e1 in
    over_none (lines_in own_43) db.protocols q p (append_front (over (lines_in own_43) db.protocols) few e2) is

has_code : (db : Database) (q : ℕ) (p : Protocol) → objection db ≡ None → slice_get db.protocols q ≡ Some p → HasCode db p (Some (proto_code db q p))
unfolding list
has_code db q p e is =
    let own : Lines = over (lines_of own_43) (elements_of p) in
    let named : Lines = over (λ (b : NamedBlock). over (lines_of own_43) b.body) (blocks_in p.format) in
    let own_limits : own ≡ [] = append_front own named (limits_of db q p e is) in
    let named_limits : named ≡ [] = append_back own named (limits_of db q p e is) in
    let names = each_of_all (Included db q (proto_code db q p) (included db p MOST_NESTED)) (λ name. of_name db q p is named_limits MOST_NESTED name (names_fit db q p e is name)) (includes_in (elements_of p)) in
    record {
      code = proto_code db q p;
      stands = refl;
      does = to_end db (proto_code db q p) (codes_in db q (elements_of p) none) (list db p (elements_of p) none) 0 (of_list db q (field_names p) (ap names_at is) (proto_code db q p) (included db p MOST_NESTED) (elements_of p) names own_limits none) (own_stands db q p);
    }

codes_at : (db : Database) (ps : List Protocol) (k q : ℕ) (p : Protocol) → slice_get ps q ≡ Some p → slice_get (protocol_codes db k ps) q ≡ Some (proto_code db (k + q) p)
codes_at db [] k q p e = (cc)
codes_at db (x ∷ ps) k zero p e = let same : x ≡ p = cc in let n : k ≡ k + zero = omega arith in λ i. Some (proto_code db (n i) (same i))
codes_at db (x ∷ ps) k (suc q) p e = let n : suc k + q ≡ k + suc q = omega arith in codes_at db ps (suc k) q p e ∙ ap (λ m. Some (proto_code db m p)) n

pub is_code : (db : Database) (code : Code) → IsChecked db → code.protocols ≡ protocol_codes db 0 db.protocols → IsCodeOf db code
is_code db code c e q p is =
    let n : 0 + q ≡ q = omega arith in
    let found : slice_get code.protocols q ≡ Some (proto_code db q p) = ap (λ l. slice_get l q) e ∙ (codes_at db db.protocols 0 q p is ∙ ap (λ m. Some (proto_code db m p)) n) in
    subst (λ o. HasCode db p o) (sym found) (has_code db q p c.accepted is)
