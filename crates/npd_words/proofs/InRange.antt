-- The numbers of each plan that words ask for are in their ranges.
use Rattle.std.proofs.Common.{◌≡◌, ℕ, ◌≤◌, Bool, true, false, not, ◌&&◌, if◌then◌else◌, List, [], ◌∷◌, length, Option, Some, None, Result, Ok, Err, refl, subst, arith}
use Rattle.std.specs.Prelude.{bytes_eq, nat_eq, is_some, unwrap_or}
use Rattle.std.proofs.lemmas.Bool.Decides.{nat_tests}
use Rattle.db_model.specs.Names.{Text}
use Rattle.npd_words.specs.declared.cause.Cause.TheVariants as cause
use Rattle.npd_words.specs.declared.command.Command.{Command}
use Rattle.npd_words.specs.declared.command.Command.TheVariants as command
use Rattle.npd_words.specs.declared.fail.WordsFail.{WordsFail}
use Rattle.npd_words.specs.declared.given.Given.{Given}
use Rattle.npd_words.specs.declared.option_name.OptionName.{OptionName}
use Rattle.npd_words.specs.declared.option_name.OptionName.TheVariants as option
use Rattle.npd_words.specs.declared.plan.Plan.{Plan}
use Rattle.npd_words.specs.declared.row.Form.{Form}
use Rattle.npd_words.specs.declared.row.Form.TheVariants as form
use Rattle.npd_words.specs.declared.row.OptionRow.{OptionRow}
use Rattle.std.specs.Prelude.{IfOk}
use Rattle.npd_words.specs.Asked.{asked, asked_of, asked_by, planned_by}
use Rattle.npd_words.specs.Names.{lacks, same_name}
use Rattle.npd_words.specs.Numbers.{number_of, is_within, fits}
use Rattle.npd_words.specs.Occurrences.{Occurrence, occurrences}
use Rattle.npd_words.specs.Options.{Fault, caused, options, value_of, is_given}
use Rattle.npd_words.specs.Plans.{plan_of, number, number_by, default_of}
use Rattle.npd_words.specs.Ranges.{IsInRange}
use Rattle.npd_words.specs.Rows.{command_of, rows}
use Rattle.npd_words.specs.Spelled.{option_text}
use Rattle.npd_words.proofs.Fit.{AllFit, options_fit}

abbrev Lies : ℕ → ℕ → ℕ → Type 0
Lies least most n = (least ≤ n) × (n ≤ most)

abbrev is_range : ℕ → ℕ → Form → Bool
is_range least most form.Input = false
is_range least most form.Output = false
is_range least most (form.Number a b) = nat_eq a least && nat_eq b most

-- a row of this option has this range
abbrev says : ℕ → ℕ → OptionName → OptionRow → Bool
says least most o r = if bytes_eq (option_text o) (option_text r.option) then is_range least most r.form else true

read_within : (least most a b : ℕ) (n : Option ℕ) → (nat_eq a least && nat_eq b most) ≡ true → is_within a b n ≡ true → Lies least most (unwrap_or n 0)
read_within least most a b None r f = absurd (cc)
read_within least most a b (Some n) r f = (grind (arith, nat_tests), grind (arith, nat_tests))

fit_within : (least most : ℕ) (f : Form) (t : Text) → is_range least most f ≡ true → fits f t ≡ true → Lies least most (unwrap_or (number_of t) 0)
fit_within least most form.Input t r f = absurd (cc)
fit_within least most form.Output t r f = absurd (cc)
fit_within least most (form.Number a b) t r f = read_within least most a b (number_of t) r f

module _ (least most : ℕ) (o : OptionName) (rs : List OptionRow) where
  value_step : (g : Given) (rest : Option Text) (is_it : Bool) → (if is_it then is_range least most g.row.form else true) ≡ true → fits g.row.form g.value ≡ true
      → ((rest ≡ None → Lies least most (default_of rs o)) → Lies least most (number_by rs o rest))
      → ((if is_it then Some g.value else rest) ≡ None → Lies least most (default_of rs o)) → Lies least most (number_by rs o (if is_it then Some g.value else rest))
  value_step g rest true s f later none = fit_within least most g.row.form g.value s f
  value_step g rest false s f later none = later none

  -- the number of an option is in its range, where its default is or it is given
  number_lies : (given : List Given) → AllFit (says least most o) given → (value_of given o ≡ None → Lies least most (default_of rs o)) → Lies least most (number rs given o)
  number_lies [] h none = none refl
  number_lies (g ∷ gs) h none = value_step g (value_of gs o) (bytes_eq (option_text o) (option_text g.row.option)) h.0.1 h.0.0 (number_lies gs h.1) none

given_step : (is_it : Bool) (x : Bool) (v : Text) (y : Option Text) → x ≡ is_some y → (if is_it then true else x) ≡ is_some (if is_it then Some v else y)
given_step true x v y e = refl
given_step false x v y e = e

-- what is given has a value
given_has : (gs : List Given) (o : OptionName) → is_given gs (option_text o) ≡ is_some (value_of gs o)
given_has [] o = refl
given_has (g ∷ gs) o = given_step (bytes_eq (option_text o) (option_text g.row.option)) (is_given gs (option_text o)) g.value (value_of gs o) (given_has gs o)

second_of : (a b : Bool) → (if not a then true else (if not b then true else false)) ≡ false → b ≡ true
second_of true true e = refl
second_of true false e = absurd (cc)
second_of false b e = absurd (cc)

plan_lies : (c : Command) (os : List Occurrence) (given : List Given) → options (rows c) os [] ≡ Ok given → lacks given (rows c) ≡ false → IsInRange (plan_of c given)
unfolding rows option_text
plan_lies command.Decode os given read lacked =
    let n : (least most : ℕ) (o : OptionName) → AllFit (says least most o) given → Lies least most (default_of (rows command.Decode) o) → Lies least most (number (rows command.Decode) given o)
    = λ least most o fit d. number_lies least most o (rows command.Decode) given fit (λ _. d) in
    let workers = n 0 64 option.Workers (options_fit (says 0 64 option.Workers) (rows command.Decode) refl os [] given tt read) (omega arith, omega arith) in
    let window = n 1 256 option.Window (options_fit (says 1 256 option.Window) (rows command.Decode) refl os [] given tt read) (omega arith, omega arith) in
    let max = n 1 4294967295 option.MaxPackets (options_fit (says 1 4294967295 option.MaxPackets) (rows command.Decode) refl os [] given tt read) (omega arith, omega arith) in
    (workers.1, window.0, window.1, max.0)
plan_lies command.Check os given read lacked = tt
plan_lies command.Gen os given read lacked =
    let n : (least most : ℕ) (o : OptionName) → AllFit (says least most o) given → (value_of given o ≡ None → Lies least most (default_of (rows command.Gen) o)) → Lies least most (number (rows command.Gen) given o)
    = λ least most o fit d. number_lies least most o (rows command.Gen) given fit d in
    let is_there : is_given given (option_text option.Packets) ≡ true = second_of (is_given given (option_text option.Seed)) (is_given given (option_text option.Packets)) lacked in
    let packets = n 1 100000 option.Packets (options_fit (says 1 100000 option.Packets) (rows command.Gen) refl os [] given tt read)
    (λ none. let there = given_has given option.Packets in absurd (cc)) in
    let workers = n 0 64 option.Workers (options_fit (says 0 64 option.Workers) (rows command.Gen) refl os [] given tt read) (λ _. (omega arith, omega arith)) in
    let window = n 1 256 option.Window (options_fit (says 1 256 option.Window) (rows command.Gen) refl os [] given tt read) (λ _. (omega arith, omega arith)) in
    (packets.0, packets.1, workers.1, window.0, window.1)

module _ (p : Plan) where
  by_names : (c : Command) (count : ℕ) (given : List Given) (s : Option ℕ) (b : Bool) → (b ≡ false → IsInRange (plan_of c given))
      → (if b then Err (caused count cause.MissingOption) else planned_by c given s) ≡ Ok p → IsInRange p
  by_names c count given s true lies e = absurd (cc)
  by_names c count given (Some i) false lies e = absurd (cc)
  by_names c count given None false lies e = let same : plan_of c given ≡ p = cc in subst IsInRange same (lies refl)

  by_options : (c : Command) (count : ℕ) (os : List Occurrence) (read : Result (List Given) Fault) → options (rows c) os [] ≡ read → asked_by c count read ≡ Ok p → IsInRange p
  by_options c count os (Err f) r e = absurd (cc)
  by_options c count os (Ok given) r e = by_names c count given (same_name [] given) (lacks given (rows c)) (plan_lies c os given r) e

  by_command : (c : Option Command) (count : ℕ) (ws : List Text) → asked_of c count ws ≡ Ok p → IsInRange p
  by_command None count ws e = absurd (cc)
  by_command (Some c) count ws e = by_options c count (occurrences ws false 1) (options (rows c) (occurrences ws false 1) []) refl e

  asked_lies : (all : List Text) → asked all ≡ Ok p → IsInRange p
  asked_lies [] e = absurd (cc)
  asked_lies (w ∷ ws) e = by_command (command_of w) (length (w ∷ ws)) ws e

pub answer_lies : (all : List Text) (r : Result Plan WordsFail) → IfOk r (λ p. asked all ≡ Ok p) → IfOk r IsInRange
answer_lies all (Ok p) h = asked_lies p all h
answer_lies all (Err e) h = tt
