use Rattle.db_laws.proofs.Proper.{expression_proper}
use Rattle.db_laws.proofs.ProperDecoding.{chain_proper, list_proper, decoding_proper}
use Rattle.db_laws.proofs.asks_properly.Goals as goal

pub returns : goal.returns
returns c = record {
  decoding = λ db p h. decoding_proper db h p;
  chain = λ db n q h. chain_proper db h n q;
  list = λ db q p at h g. list_proper db q p h g at;
  expression = λ db fields e. expression_proper db fields e;
}
