-- What an operation means, where it is the one at the place.
use Rattle.std.specs.Prelude.{◌≡◌, ℕ, ◌+◌, slice_get, Option, Some}
use Rattle.std.proofs.Common.{refl, subst}
use Rattle.db_model.specs.declared.database.Database.{Database}
use Rattle.db_model.specs.Questions.{◌then◌}
use Rattle.db_model.specs.Runs.{Run, go}
use Rattle.pdl_code.specs.declared.code.Op.{Op}
use Rattle.pdl_code.specs.declared.code.Op.TheVariants.{End, Field, SizedField, Assign, Update, NextProto, Leave, Jump, Test, Switch, Block, Include, Loop}
use Rattle.pdl_code.specs.declared.code.ProtoCode.{ProtoCode}
use Rattle.pdl_code.specs.Does.{IsPlain, act, Does, over, plain, jumps, tests, switches, blocks, includes, loops}
use Rattle.pdl_code.specs.Means.{Means}

same_op : (a b : Op) (x : Option Op) → x ≡ Some a → x ≡ Some b → a ≡ b
same_op a b x e f = cc

module _ (db : Database) (code : ProtoCode) where
  -- the operation at a place, and what it means
  record Meant (pc : ℕ) (r : Run) : Type 0 where
    op : Op
    stands : slice_get code.ops pc ≡ Some op
    means : Means db code op pc r

  of_plain : (o : Op) (pc : ℕ) (r : Run) → IsPlain o → Does db code (pc + 1 + 0) r → Means db code o pc (act db o then go r)
  of_plain End pc r p d = absurd p
  of_plain (Field n kind) pc r p d = record { rest = r; at_rest = d; is = refl }
  of_plain (SizedField n size) pc r p d = record { rest = r; at_rest = d; is = refl }
  of_plain (Assign n value) pc r p d = record { rest = r; at_rest = d; is = refl }
  of_plain (Update u) pc r p d = record { rest = r; at_rest = d; is = refl }
  of_plain (NextProto value) pc r p d = record { rest = r; at_rest = d; is = refl }
  of_plain (Leave kind) pc r p d = record { rest = r; at_rest = d; is = refl }
  of_plain (Jump to) pc r p d = absurd p
  of_plain (Test value to) pc r p d = absurd p
  of_plain (Switch value choice) pc r p d = absurd p
  of_plain (Block n after) pc r p d = absurd p
  of_plain (Include b) pc r p d = absurd p
  of_plain (Loop kind value after) pc r p d = absurd p

  meant : (pc : ℕ) (r : Run) → Does db code pc r → Meant pc r
  meant _ _ (over pc e) = record { op = End; stands = e; means = refl }
  meant _ _ (plain pc o r e p d) = record { op = o; stands = e; means = of_plain o pc r p d }
  meant _ _ (jumps pc to r e d) = record { op = Jump to; stands = e; means = d }
  meant _ _ (tests pc value to rs e d) = record { op = Test value to; stands = e; means = record { rests = rs; at_rest = d; is = refl } }
  meant _ _ (switches pc value choice rs e d) = record { op = Switch value choice; stands = e; means = record { rests = rs; at_rest = d; is = refl } }
  meant _ _ (blocks pc n after body r e b d) = record { op = Block n after; stands = e; means = record { body = body; rest = r; at_body = b; at_rest = d; is = refl } }
  meant _ _ (includes pc b start body r e s bd d) = record { op = Include b; stands = e; means = record { start = start; stands = s; body = body; rest = r; at_body = bd; at_rest = d; is = refl } }
  meant _ _ (loops pc kind value after body r e b d) = record { op = Loop kind value after; stands = e; means = record { body = body; rest = r; at_body = b; at_rest = d; is = refl } }

  pub invert : (o : Op) (pc : ℕ) (r : Run) → slice_get code.ops pc ≡ Some o → Does db code pc r → Means db code o pc r
  invert o pc r e d = let m = meant pc r d in subst (λ x. Means db code x pc r) (same_op m.op o (slice_get code.ops pc) m.stands e) m.means
