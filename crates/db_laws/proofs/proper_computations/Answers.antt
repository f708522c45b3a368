use Rattle.db_laws.proofs.Proper.{proper_then, proper_parts, proper_plays}
use Rattle.db_model.specs.Proper.{Proper, Leaves, Any, AnyEnd}
use Rattle.db_laws.proofs.proper_computations.Goals as goal

pub returns : goal.returns
returns g c = record {
  one_after_another = λ db n x f. (proper_parts db AnyEnd f n x, λ h. proper_then db (λ a m. Proper db AnyEnd m (f a)) AnyEnd f (λ a m k. k) n x h);
  first = λ db n t x f s h. proper_plays db (λ a m. Proper db AnyEnd m (f a)) t n x s (proper_parts db AnyEnd f n x h);
  step = λ db left n t x s h. proper_plays db (Leaves left Any) t n x s h;
}
