use Rattle.std.proofs.Common.{◌≡◌, ◌++◌, ◌-◌, ◌≤◌, drop, length}
use Rattle.db_model.specs.Numbering.{plus, counts_in}
use Rattle.pdl_code.specs.Coding.{begins}
use Rattle.pdl_code.specs.Parts.{counts, counts_in_cases, open_bodies, ends}
use Rattle.pdl_code.specs.Written.{codes_in, codes_in_cases}
use Rattle.pdl_code.proofs.emit.+emit.Given as goal

abbrev pub invariant-list-loop-x : goal.invariant-list-loop-x
invariant-list-loop-x l = record {
  counted : plus (counts l.to) (counts_in (drop l.x-index l.xs)) ≡ plus (counts l.fn.at) (counts_in l.xs);
  written : l.ops ++ codes_in l.scope (drop l.x-index l.xs) (counts l.to) ≡ l.fn.ops ++ codes_in l.scope l.xs (counts l.fn.at);
}

abbrev pub invariant-bodies-loop-case : goal.invariant-bodies-loop-case
invariant-bodies-loop-case l = record {
  counted : plus (counts l.to) (counts_in_cases (drop l.case-index l.cases)) ≡ plus (counts l.fn.at) (counts_in_cases l.cases);
  written : l.ops ++ open_bodies (codes_in_cases l.scope (drop l.case-index l.cases) (counts l.to)) ≡ l.fn.ops ++ open_bodies (codes_in_cases l.scope l.cases (counts l.fn.at));
  begun : l.begins ++ begins (length l.ops - l.first) (codes_in_cases l.scope (drop l.case-index l.cases) (counts l.to)) ≡ begins 0 (codes_in_cases l.scope l.cases (counts l.fn.at));
  ended : l.ends ++ ends (length l.ops) (codes_in_cases l.scope (drop l.case-index l.cases) (counts l.to)) ≡ ends (length l.fn.ops) (codes_in_cases l.scope l.cases (counts l.fn.at));
  behind : l.first ≤ length l.ops;
}
