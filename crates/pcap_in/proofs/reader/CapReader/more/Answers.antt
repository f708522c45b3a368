use Rattle.std.proofs.Common.{sym, ◌∙◌}
use Rattle.pcap_in.proofs.More.{is-reading, none-kept, Tells-kept, Tells-byte}
use Rattle.pcap_in.proofs.reader.CapReader.more.Goals as goal

pub returns-then-is_some-clause-tells : goal.returns-then-is_some-clause-tells
returns-then-is_some-clause-tells g c =
    let r = c.self.inside in
    let reading = rw (← c.self.view_is) at c.requires.reading in
    rw (← c.self.view_is, is-reading r.state reading) (Tells-kept r.kept r.form r.number r.offset _ (sym c.is_some.ensures ∙ c.if-is_some.true))

pub returns-in-Ok-clause-tells : goal.returns-in-Ok-clause-tells
returns-in-Ok-clause-tells g c =
    let r = c.self.inside in
    let reading = rw (← c.self.view_is) at c.requires.reading in
    let kept_is = none-kept r.kept (sym c.is_some.ensures ∙ c.if-is_some.false) in
    let read = c.in-Ok.ensures.inputs in
    rw (← c.self.view_is, is-reading r.state reading, kept_is, c.is_some-in-Ok.ensures) (Tells-byte c.in-Ok.byte r.form r.number r.offset _ _ read.bytes read.gave.front read.taken)
