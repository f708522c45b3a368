use Rattle.std.proofs.Common.{◌≡◌, Err, rules}
use Rattle.decode_vm.proofs.Stepping.{begun_there, close_refused, close_some, close_none}
use Rattle.decode_vm.proofs.list.close.Goals as goal

pub resume-requires : goal.resume-requires
resume-requires c = begun_there c.args.m.now _ c.in-Some.held c.requires c.in-Some.ensures

pub returns-in_ok-resume-in-Some : goal.returns-in_ok-resume-in-Some
returns-in_ok-resume-in-Some c = close_some c.args.way c.args.m.now _ c.in-Some.held c.resume.new.m c.in-Some.ensures c.in_ok-resume-in-Some.ensures

pub returns-in_err-resume-in-Some : goal.returns-in_err-resume-in-Some
returns-in_err-resume-in-Some c =
    let r : c.from_residual.result ≡ Err c.in_err-resume-in-Some.field-0.0 = search rules in
    close_refused c.args.way c.args.m.now c.resume.new.m c.from_residual.result c.in_err-resume-in-Some.field-0.0 r

pub returns-in-None : goal.returns-in-None
returns-in-None c = close_none c.args.way c.args.m.now _ c.in-None.ensures.0 c.in-None.ensures.1
