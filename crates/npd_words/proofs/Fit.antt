-- What holds of each option that words give: its value fits its row, and its row is one of the command's.
use Rattle.std.proofs.Common.{◌≡◌, ℕ, Bool, true, false, if◌then◌else◌, List, [], ◌∷◌, ◌++◌, Option, Some, None, Result, Ok, Err, refl, subst, ◌==◌, length}
use Rattle.std.specs.Prelude.{bytes_eq}
use Rattle.std.specs.List.{list_all}
use Rattle.std.proofs.lemmas.Bool.{and_parts}
use Rattle.db_model.specs.Names.{Text}
use Rattle.npd_words.specs.declared.cause.Cause.{Cause}
use Rattle.npd_words.specs.declared.cause.Cause.TheVariants as cause
use Rattle.npd_words.specs.declared.given.Given.{Given}
use Rattle.npd_words.specs.declared.row.OptionRow.{OptionRow}
use Rattle.npd_words.specs.Numbers.{fits}
use Rattle.npd_words.specs.Occurrences.{Occurrence}
use Rattle.npd_words.specs.Options.{row_of, is_given, judged, judged_by, judged_value, options, taken_in}
use Rattle.npd_words.specs.Spelled.{option_text}

module _ (test : OptionRow → Bool) where
  -- a row that passes a test, with a value that fits it
  abbrev pub Fits : OptionRow × Text → Type 0
  Fits r = (fits r.0.form r.1 ≡ true) × (test r.0 ≡ true)

  abbrev pub AllFit : List Given → Type 0
  AllFit [] = Unit {0}
  AllFit (g ∷ gs) = Fits (g.row, g.value) × AllFit gs

  fit_more : (gs : List Given) (g : Given) → AllFit gs → Fits (g.row, g.value) → AllFit (gs ++ g ∷ [])
  fit_more [] g h k = (k, tt)
  fit_more (x ∷ xs) g h k = (h.0, fit_more xs g h.1 k)

  row_step : (b : Bool) (x r : OptionRow) (rest : Option OptionRow) → test x ≡ true → (rest ≡ Some r → test r ≡ true) → (if b then Some x else rest) ≡ Some r → test r ≡ true
  row_step true x r rest here later e = let same : x ≡ r = cc in subst (λ y. test y ≡ true) same here
  row_step false x r rest here later e = later e

  -- each row that is found passes a test that all rows pass
  row_passes : (rs : List OptionRow) (name : Text) (r : OptionRow) → list_all test rs ≡ true → row_of rs name ≡ Some r → test r ≡ true
  row_passes [] name r all e = absurd (cc)
  row_passes (x ∷ xs) name r all e =
      let parts = and_parts (test x) (list_all test xs) all in
      row_step (bytes_eq name (option_text x.option)) x r (row_of xs name) parts.0 (row_passes xs name r parts.1) e

  abbrev with_value : OptionRow → Text → Bool → Bool → Result (OptionRow × Text) Cause
  with_value x v is_empty is_fit = if is_empty then Err cause.EmptyValue else (if is_fit then Ok (x, v) else Err cause.NoNumber)

  value_step : (x : OptionRow) (v : Text) (r : OptionRow × Text) (is_empty is_fit : Bool) → test x ≡ true → fits x.form v ≡ is_fit
      → with_value x v is_empty is_fit ≡ Ok r → Fits r
  value_step x v r true is_fit t f e = absurd (cc)
  value_step x v r false true t f e = let same : (x, v) ≡ r = cc in subst Fits same (f, t)
  value_step x v r false false t f e = absurd (cc)

  given_step : (x : OptionRow) (value : Option Text) (r : OptionRow × Text) (is_second : Bool) → test x ≡ true
      → (if is_second then Err cause.SecondTime else judged_value x value) ≡ Ok r → Fits r
  given_step x value r true t e = absurd (cc)
  given_step x None r false t e = absurd (cc)
  given_step x (Some v) r false t e = value_step x v r (length v == 0) (fits x.form v) t refl e

  by_row : (o : Option OptionRow) (given : List Given) (name : Text) (value : Option Text) (r : OptionRow × Text)
      → ((x : OptionRow) → o ≡ Some x → test x ≡ true) → judged_by o given name value ≡ Ok r → Fits r
  by_row None given name value r t e = absurd (cc)
  by_row (Some x) given name value r t e = given_step x value r (is_given given name) (t x refl) e

  module _ (rows : List OptionRow) (all : list_all test rows ≡ true) where
    option_step : (i : ℕ) (os : List Occurrence) (given out : List Given) (j : Result (OptionRow × Text) Cause)
        → ((r : OptionRow × Text) → j ≡ Ok r → Fits r)
        → ((more : List Given) → AllFit more → options rows os more ≡ Ok out → AllFit out)
        → AllFit given → taken_in i j (options rows os) given ≡ Ok out → AllFit out
    option_step i os given out (Err c) fit later h e = absurd (cc)
    option_step i os given out (Ok r) fit later h e =
        let one : Given = record { index = i; row = r.0; value = r.1 } in
        later (given ++ one ∷ []) (fit_more given one h (fit r refl)) e

    -- each option that is given fits
    pub options_fit : (os : List Occurrence) (given out : List Given) → AllFit given → options rows os given ≡ Ok out → AllFit out
    options_fit [] given out h e = let same : given ≡ out = cc in subst AllFit same h
    options_fit (o ∷ os) given out h e =
        option_step o.index os given out (judged rows given o.name o.value)
        (λ r. by_row (row_of rows o.name) given o.name o.value r (λ x. row_passes rows o.name x all))
        (λ more. options_fit os more out) h e
