-- The least of all faults, by the parts of each kind.
use Rattle.std.specs.Prelude.{◌≡◌, not, List, [], ◌∷◌, ◌++◌, map}
use Rattle.std.proofs.Common.{refl, ap, sym, ◌∙◌}
use Rattle.db_cause.specs.declared.cause.Cause.TheVariants as cause
use Rattle.db_cause.specs.Codes.{code}
use Rattle.db_model.specs.declared.database.Database.{Database}
use Rattle.db_model.specs.declared.database.Protocol.{Protocol}
use Rattle.db_model.specs.declared.fault.Fault.{Fault}
use Rattle.db_check.specs.declared.kind.Kind.TheVariants as kind
use Rattle.db_model.specs.declared.limits.TheConstants.{MOST_PROTOCOLS, MOST_VARIABLES, MOST_TABLES, MOST_SHOW_TEMPLATES, MOST_SUM_TEMPLATES}
use Rattle.db_model.specs.BlockFaults.{fault_45, fault_46}
use Rattle.db_model.specs.LeastFault.{earlier}
use Rattle.db_model.specs.Lines.{Lines, over, over_option, at_line, lines_in}
use Rattle.db_model.specs.NameFaults.{payload_name, repeated, repeated_in_table, repeated_blocks, repeated_sections, fault_40, fault_41, protocol_41, block_names}
use Rattle.db_model.specs.Special.{special_names}
use Rattle.db_model.specs.Names.{startproto}
use Rattle.db_model.specs.Numbering.{field_names}
use Rattle.db_model.specs.NumberFaults.{too_many, fault_43, fault_44, own_43, tables_43, template_43}
use Rattle.db_model.specs.Objection.{coded, faults, objection}
use Rattle.db_model.specs.TypeFaults.{fault_42, fault_47, own_42, own_47}
use Rattle.db_model.specs.Typing.{is_protocol}
use Rattle.db_model.proofs.LeastFault.{least_append}
use Rattle.db_check.specs.Entries.{excess_lines}
use Rattle.db_check.specs.First.{first}
use Rattle.db_check.specs.Known.{protocol_lines, lacks_summary}
use Rattle.db_check.specs.Rows.{rows_in}
use Rattle.db_check.specs.Uses.{literal_lines, type_lines, template_lines}
use Rattle.db_check.proofs.FirstFault.{first_append}
use Rattle.db_check.proofs.FourKinds.{are_41, are_42, are_43, are_47}

over_same : {A : Type 0} (f g : A → Lines) → ((x : A) → f x ≡ g x) → (xs : List A) → over f xs ≡ over g xs
over_same f g h xs = λ i. over (λ x. h x i) xs

module _ (db : Database) where
  one_41 : (p : Protocol) → protocol_lines db kind.Names p ≡ protocol_41 db p
  one_41 p = λ i. at_line p.line (lacks_summary db p.showsum) ++ lines_in (λ x. are_41 db (field_names p) (block_names p) x i) p

  one_42 : (p : Protocol) → protocol_lines db kind.Types p ≡ lines_in (own_42 db (field_names p)) p
  one_42 p = λ i. lines_in (λ x. are_42 db (field_names p) (block_names p) x i) p

  one_43 : (p : Protocol) → protocol_lines db kind.Numbers p ≡ lines_in own_43 p
  one_43 p = λ i. lines_in (λ x. are_43 db (field_names p) (block_names p) x i) p

  one_47 : (p : Protocol) → protocol_lines db kind.Tables p ≡ lines_in (own_47 db) p
  one_47 p = λ i. lines_in (λ x. are_47 db (field_names p) (block_names p) x i) p

  pub all_41 : first cause.Undeclared (fault_41 db) ≡ earlier (first cause.Undeclared (at_line db.line (not (is_protocol db startproto)))) (earlier (first cause.Undeclared (over (literal_lines db) db.variables)) (earlier (first cause.Undeclared (over (template_lines db) db.sum_templates)) (first cause.Undeclared (over (protocol_lines db kind.Names) db.protocols))))
  unfolding fault_41
  all_41 =
      ap (λ l. first cause.Undeclared (at_line db.line (not (is_protocol db startproto)) ++ (over (literal_lines db) db.variables ++ (over (template_lines db) db.sum_templates ++ l)))) (sym (over_same (protocol_lines db kind.Names) (protocol_41 db) one_41 db.protocols))
      ∙ (first_append cause.Undeclared (at_line db.line (not (is_protocol db startproto))) (over (literal_lines db) db.variables ++ (over (template_lines db) db.sum_templates ++ over (protocol_lines db kind.Names) db.protocols))
      ∙ ap (earlier (first cause.Undeclared (at_line db.line (not (is_protocol db startproto)))))
      (first_append cause.Undeclared (over (literal_lines db) db.variables) (over (template_lines db) db.sum_templates ++ over (protocol_lines db kind.Names) db.protocols)
      ∙ ap (earlier (first cause.Undeclared (over (literal_lines db) db.variables))) (first_append cause.Undeclared (over (template_lines db) db.sum_templates) (over (protocol_lines db kind.Names) db.protocols))))

  pub all_42 : first cause.WrongType (fault_42 db) ≡ earlier (first cause.WrongType (over (type_lines db) db.variables)) (first cause.WrongType (over (protocol_lines db kind.Types) db.protocols))
  unfolding fault_42
  all_42 =
      ap (λ l. first cause.WrongType (over (type_lines db) db.variables ++ l)) (sym (over_same (protocol_lines db kind.Types) (λ (p : Protocol). lines_in (own_42 db (field_names p)) p) one_42 db.protocols))
      ∙ first_append cause.WrongType (over (type_lines db) db.variables) (over (protocol_lines db kind.Types) db.protocols)

  pub all_43 : first cause.OutOfLimits (fault_43 db) ≡ earlier (first cause.OutOfLimits (tables_43 0 db.tables)) (earlier (first cause.OutOfLimits (over template_43 db.show_templates)) (earlier (first cause.OutOfLimits (over (protocol_lines db kind.Numbers) db.protocols)) (first cause.OutOfLimits (excess_lines db))))
  unfolding fault_43
  all_43 =
      ap (λ l. first cause.OutOfLimits (tables_43 0 db.tables ++ (over template_43 db.show_templates ++ (l ++ excess_lines db)))) (sym (over_same (protocol_lines db kind.Numbers) (lines_in own_43) one_43 db.protocols))
      ∙ (first_append cause.OutOfLimits (tables_43 0 db.tables) (over template_43 db.show_templates ++ (over (protocol_lines db kind.Numbers) db.protocols ++ excess_lines db))
      ∙ ap (earlier (first cause.OutOfLimits (tables_43 0 db.tables)))
      (first_append cause.OutOfLimits (over template_43 db.show_templates) (over (protocol_lines db kind.Numbers) db.protocols ++ excess_lines db)
      ∙ ap (earlier (first cause.OutOfLimits (over template_43 db.show_templates))) (first_append cause.OutOfLimits (over (protocol_lines db kind.Numbers) db.protocols) (excess_lines db))))

  pub all_44 : first cause.UnfollowedBits (fault_44 db) ≡ first cause.UnfollowedBits (over rows_in db.protocols)
  unfolding fault_44
  all_44 = refl

  pub all_47 : first cause.TableMisfit (fault_47 db) ≡ first cause.TableMisfit (over (protocol_lines db kind.Tables) db.protocols)
  unfolding fault_47
  all_47 = ap (first cause.TableMisfit) (sym (over_same (protocol_lines db kind.Tables) (λ (p : Protocol). lines_in (own_47 db) p) one_47 db.protocols))

  pub objection_is : objection db ≡ earlier (first cause.DeclaredAgain (fault_40 db)) (earlier (first cause.Undeclared (fault_41 db)) (earlier (first cause.WrongType (fault_42 db)) (earlier (first cause.OutOfLimits (fault_43 db)) (earlier (first cause.UnfollowedBits (fault_44 db)) (earlier (first cause.IncludesItself (fault_45 db)) (earlier (first cause.NestedTooDeep (fault_46 db)) (first cause.TableMisfit (fault_47 db))))))))
  unfolding objection faults
  objection_is =
      let l47 : List Fault = coded (code cause.TableMisfit) (fault_47 db) in
      let l46 : List Fault = coded (code cause.NestedTooDeep) (fault_46 db) ++ l47 in
      let l45 : List Fault = coded (code cause.IncludesItself) (fault_45 db) ++ l46 in
      let l44 : List Fault = coded (code cause.UnfollowedBits) (fault_44 db) ++ l45 in
      let l43 : List Fault = coded (code cause.OutOfLimits) (fault_43 db) ++ l44 in
      let l42 : List Fault = coded (code cause.WrongType) (fault_42 db) ++ l43 in
      let l41 : List Fault = coded (code cause.Undeclared) (fault_41 db) ++ l42 in
      least_append (coded (code cause.DeclaredAgain) (fault_40 db)) l41
      ∙ ap (earlier (first cause.DeclaredAgain (fault_40 db))) (least_append (coded (code cause.Undeclared) (fault_41 db)) l42
      ∙ ap (earlier (first cause.Undeclared (fault_41 db))) (least_append (coded (code cause.WrongType) (fault_42 db)) l43
      ∙ ap (earlier (first cause.WrongType (fault_42 db))) (least_append (coded (code cause.OutOfLimits) (fault_43 db)) l44
      ∙ ap (earlier (first cause.OutOfLimits (fault_43 db))) (least_append (coded (code cause.UnfollowedBits) (fault_44 db)) l45
      ∙ ap (earlier (first cause.UnfollowedBits (fault_44 db))) (least_append (coded (code cause.IncludesItself) (fault_45 db)) l46
      ∙ ap (earlier (first cause.IncludesItself (fault_45 db))) (least_append (coded (code cause.NestedTooDeep) (fault_46 db)) l47))))))

  pub counts_are : first cause.OutOfLimits (excess_lines db) ≡ earlier (first cause.OutOfLimits (too_many MOST_PROTOCOLS (map (λ d. d.line) db.protocols))) (earlier (first cause.OutOfLimits (too_many MOST_VARIABLES (map (λ d. d.line) db.variables))) (earlier (first cause.OutOfLimits (too_many MOST_TABLES (map (λ d. d.line) db.tables))) (earlier (first cause.OutOfLimits (too_many MOST_SHOW_TEMPLATES (map (λ d. d.line) db.show_templates))) (first cause.OutOfLimits (too_many MOST_SUM_TEMPLATES (map (λ d. d.line) db.sum_templates))))))
  counts_are =
      let p : Lines = too_many MOST_PROTOCOLS (map (λ d. d.line) db.protocols) in
      let v : Lines = too_many MOST_VARIABLES (map (λ d. d.line) db.variables) in
      let t : Lines = too_many MOST_TABLES (map (λ d. d.line) db.tables) in
      let h : Lines = too_many MOST_SHOW_TEMPLATES (map (λ d. d.line) db.show_templates) in
      let s : Lines = too_many MOST_SUM_TEMPLATES (map (λ d. d.line) db.sum_templates) in
      first_append cause.OutOfLimits p (v ++ (t ++ (h ++ s))) ∙ ap (earlier (first cause.OutOfLimits p)) (first_append cause.OutOfLimits v (t ++ (h ++ s)) ∙ ap (earlier (first cause.OutOfLimits v)) (first_append cause.OutOfLimits t (h ++ s) ∙ ap (earlier (first cause.OutOfLimits t)) (first_append cause.OutOfLimits h s)))

  pub all_40 : first cause.DeclaredAgain (fault_40 db) ≡ earlier (first cause.DeclaredAgain (repeated (payload_name ∷ []) (map (λ d. (d.name, d.line)) db.protocols))) (earlier (first cause.DeclaredAgain (repeated special_names (map (λ d. (d.name, d.line)) db.variables))) (earlier (first cause.DeclaredAgain (repeated [] (map (λ d. (d.name, d.line)) db.tables))) (earlier (first cause.DeclaredAgain (over repeated_in_table db.tables)) (earlier (first cause.DeclaredAgain (repeated [] (map (λ d. (d.name, d.line)) db.show_templates))) (earlier (first cause.DeclaredAgain (repeated [] (map (λ d. (d.name, d.line)) db.sum_templates))) (earlier (first cause.DeclaredAgain (over_option repeated_sections db.sum_struct)) (first cause.DeclaredAgain (over repeated_blocks db.protocols))))))))
  unfolding fault_40
  all_40 =
      let p : Lines = repeated (payload_name ∷ []) (map (λ d. (d.name, d.line)) db.protocols) in
      let v : Lines = repeated special_names (map (λ d. (d.name, d.line)) db.variables) in
      let t : Lines = repeated [] (map (λ d. (d.name, d.line)) db.tables) in
      let c : Lines = over repeated_in_table db.tables in
      let h : Lines = repeated [] (map (λ d. (d.name, d.line)) db.show_templates) in
      let s : Lines = repeated [] (map (λ d. (d.name, d.line)) db.sum_templates) in
      let n : Lines = over_option repeated_sections db.sum_struct in
      let b : Lines = over repeated_blocks db.protocols in
      first_append cause.DeclaredAgain p (v ++ (t ++ (c ++ (h ++ (s ++ (n ++ b)))))) ∙ ap (earlier (first cause.DeclaredAgain p)) (first_append cause.DeclaredAgain v (t ++ (c ++ (h ++ (s ++ (n ++ b))))) ∙ ap (earlier (first cause.DeclaredAgain v)) (first_append cause.DeclaredAgain t (c ++ (h ++ (s ++ (n ++ b)))) ∙ ap (earlier (first cause.DeclaredAgain t)) (first_append cause.DeclaredAgain c (h ++ (s ++ (n ++ b))) ∙ ap (earlier (first cause.DeclaredAgain c)) (first_append cause.DeclaredAgain h (s ++ (n ++ b)) ∙ ap (earlier (first cause.DeclaredAgain h)) (first_append cause.DeclaredAgain s (n ++ b) ∙ ap (earlier (first cause.DeclaredAgain s)) (first_append cause.DeclaredAgain n b))))))
