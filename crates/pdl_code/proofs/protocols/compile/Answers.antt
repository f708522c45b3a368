use Rattle.std.proofs.Common.{◌∙◌, ap}
use Rattle.pdl_code.specs.Coding.{protocol_codes}
use Rattle.pdl_code.proofs.Compiled.{is_code}
use Rattle.pdl_code.proofs.Whole.{all_written}
use Rattle.pdl_code.proofs.protocols.compile.Goals as goal

pub returns : goal.returns
returns c =
    let db = c.args.db.now in
    let declared = c.as_slice-declared.result.now in
    is_code db (record { protocols = c.loop-number.protocols }) c.database.ensures.checked
    (all_written db declared c.loop-number.number c.loop-number.protocols (protocol_codes db 0 declared) c.loop-number-test.false c.loop-number.invariant
    ∙ ap (λ l. protocol_codes db 0 l) (c.as_slice-declared.ensures ∙ ap (λ d. d.protocols) c.database.ensures.database))
