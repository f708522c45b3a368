-- That a file was opened, each once.
use Rattle.std.specs.Prelude.{◌≡◌, ◌⊎◌, ℕ, List, [], ◌∷◌, ◌++◌, Result, Ok, Err}
use Rattle.pipeline.specs.declared.status.Status.{Status}
use Rattle.pipeline.specs.declared.status.Status.TheVariants.{Open, NoMemory}

-- a file of this name was opened once, unless its opening gave up; where memory was refused, at most once
abbrev pub OpensOne : {A : Type 0} → List ℕ → List (List ℕ) → List (List ℕ) → Result A Status → Type 0
OpensOne name before now (Ok done) = now ≡ before ++ name ∷ []
OpensOne name before now (Err (Open role)) = now ≡ before
OpensOne name before now (Err NoMemory) = (now ≡ before) ⊎ (now ≡ before ++ name ∷ [])
OpensOne name before now (Err other) = now ≡ before ++ name ∷ []
