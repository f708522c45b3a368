-- What an element means, from what it holds.
use Rattle.std.specs.Prelude.{◌≡◌, ℕ, ◌+◌, ◌<◌, Bool, true, false, bytes_eq, if◌then◌else◌, List, [], ◌∷◌, ◌++◌, map, length, drop, get_or, Option, Some}
use Rattle.std.proofs.Common.{refl, ap, sym, ◌∙◌}
use Rattle.db_model.specs.declared.element.Element.{Element}
use Rattle.db_model.specs.Names.{Text}
use Rattle.db_text.specs.declared.node.Node.{Node, out-Node}
use Rattle.db_text.specs.declared.node.Node.TheFolds.{fold_out-Node}
use Rattle.db_load.specs.declared.kind.Kind.{Kind}
use Rattle.db_load.specs.declared.word.Word.{Word}
use Rattle.db_load.specs.declared.rule.Child.{Child}
use Rattle.db_load.specs.declared.kind.Kind.TheVariants as kind
use Rattle.db_load.specs.declared.kind.ListKind.{ListKind}
use Rattle.db_load.specs.Faults.{row_of}
use Rattle.db_load.specs.Meaning.{Meant, meant, meant_step, layer, element_by, list_by, named, first_named, placed, branch_from, branch_by}
use Rattle.db_load.specs.Rules.{children}
use Rattle.db_load.specs.Words.{spelled}
use Rattle.db_load.proofs.Parts.{first_left}

pub append_assoc : {A : Type 0} (xs ys zs : List A) → (xs ++ ys) ++ zs ≡ xs ++ (ys ++ zs)
append_assoc [] ys zs = refl
append_assoc (x ∷ xs) ys zs = ap (λ l. x ∷ l) (append_assoc xs ys zs)

pub meant_out : (n : Node) → meant n ≡ meant_step (layer n)
unfolding meant
meant_out n = fold_out-Node Meant meant_step n

pub meant_name : (n : Node) → (meant n).name ≡ (out-Node n).name
meant_name n = ap (λ (m : Meant). m.name) (meant_out n)

pub meant_line : (n : Node) → (meant n).line ≡ (out-Node n).line
meant_line n = ap (λ (m : Meant). m.line) (meant_out n)

pub meant_attributes : (n : Node) → (meant n).attributes ≡ (out-Node n).attributes
meant_attributes n = ap (λ (m : Meant). m.attributes) (meant_out n)

pub meant_element : (n : Node) (k : Kind) → (meant n).element k ≡ element_by (layer n) k
meant_element n k = ap (λ (m : Meant). m.element k) (meant_out n)

pub meant_body : (n : Node) (k : Kind) → (meant n).body k ≡ list_by (children k) (map meant (out-Node n).children)
meant_body n k = ap (λ (m : Meant). m.body k) (meant_out n)

-- ---- elements of one name, one after another

module _ {A : Type 0} (w : Word) (f : Meant → A) where
  pub named_first : (b : Bool) (a : A) (rest : List A) → (if b then a ∷ rest else rest) ≡ (if b then a ∷ [] else []) ++ rest
  named_first true a rest = refl
  named_first false a rest = refl

  -- the elements behind those that are there, and then the others
  pub named_step : (ns : List Node) (i : ℕ) (n : Node) (got now whole : List A) → i < length ns → n ≡ get_or ns i n → now ≡ got ++ named w f (meant n ∷ []) → got ++ named w f (map meant (drop i ns)) ≡ whole → now ++ named w f (map meant (drop (i + 1) ns)) ≡ whole
  named_step ns i n got now whole hi en e h =
      ap (λ l. l ++ named w f (map meant (drop (i + 1) ns))) e
      ∙ (append_assoc got (named w f (meant n ∷ [])) (named w f (map meant (drop (i + 1) ns)))
      ∙ (ap (λ l. got ++ l) (sym (ap (λ l. named w f (map meant l)) (first_left ns i n hi en) ∙ named_first (bytes_eq (meant n).name (spelled w)) (f (meant n)) (named w f (map meant (drop (i + 1) ns)))))
      ∙ h))

  pub first_so : (ns : List Node) (i : ℕ) (n : Node) (name : Text) (a : A) (whole : Option A) → i < length ns → n ≡ get_or ns i n → name ≡ (out-Node n).name → bytes_eq name (spelled w) ≡ true → a ≡ f (meant n) → first_named w f (map meant (drop i ns)) ≡ whole → Some a ≡ whole
  first_so ns i n name a whole hi en ename h ea e =
      ap Some ea ∙ (sym (ap (λ l. first_named w f (map meant l)) (first_left ns i n hi en) ∙ ap (λ (b : Bool). if b then Some (f (meant n)) else first_named w f (map meant (drop (i + 1) ns))) (ap (λ t. bytes_eq t (spelled w)) (meant_name n ∙ sym ename) ∙ h)) ∙ e)

  pub first_not : (ns : List Node) (i : ℕ) (n : Node) (name : Text) (whole : Option A) → i < length ns → n ≡ get_or ns i n → name ≡ (out-Node n).name → bytes_eq name (spelled w) ≡ false → first_named w f (map meant (drop i ns)) ≡ whole → first_named w f (map meant (drop (i + 1) ns)) ≡ whole
  first_not ns i n name whole hi en ename h e =
      sym (ap (λ l. first_named w f (map meant l)) (first_left ns i n hi en) ∙ ap (λ (b : Bool). if b then Some (f (meant n)) else first_named w f (map meant (drop (i + 1) ns))) (ap (λ t. bytes_eq t (spelled w)) (meant_name n ∙ sym ename) ∙ h)) ∙ e

-- ---- a list of elements

pub list_step : (rows : List Child) (ns : List Node) (i : ℕ) (n : Node) (name : Text) (row : Option Child) (got now whole : List Element) → i < length ns → n ≡ get_or ns i n → name ≡ (out-Node n).name → row ≡ row_of rows name → now ≡ got ++ placed row (meant n) → got ++ list_by rows (map meant (drop i ns)) ≡ whole → now ++ list_by rows (map meant (drop (i + 1) ns)) ≡ whole
list_step rows ns i n name row got now whole hi en ename erow e h =
    ap (λ l. l ++ list_by rows (map meant (drop (i + 1) ns))) e
    ∙ (append_assoc got (placed row (meant n)) (list_by rows (map meant (drop (i + 1) ns)))
    ∙ (ap (λ l. got ++ l) (sym (ap (λ l. list_by rows (map meant l)) (first_left ns i n hi en) ∙ ap (λ r. placed r (meant n) ++ list_by rows (map meant (drop (i + 1) ns))) (ap (row_of rows) (meant_name n ∙ sym ename) ∙ sym erow)))
    ∙ h))

-- a branch of its line and its elements
pub branch_of : (l : ListKind) (n : Node) (body : List Element) → body ≡ (meant n).body (kind.Branch l) → branch_from (out-Node n).line body ≡ branch_by l (meant n)
branch_of l n body e = ap (λ b. branch_from (out-Node n).line b) e ∙ ap (λ line. branch_from line ((meant n).body (kind.Branch l))) (sym (meant_line n))
