use Rattle.std.proofs.Common.{◌∙◌, rules}
use Rattle.spec_core.proofs.Settled.{kept_in}
use Rattle.spec_core.proofs.settling.Decoder.keep_or_decode.Goals as goal

pub returns-in_ok-put_log-in-Agrees-clause-texts : goal.returns-in_ok-put_log-in-Agrees-clause-texts
returns-in_ok-put_log-in-Agrees-clause-texts g c = (kept_in c.args.self.now.wanted c.args.self.now.engine c.args.packet.now c.args.s.now c.requires.decoded c.args.session.now.database c.args.session.now.content c.requires.database (search rules)).0

pub returns-in_ok-put_log-in-Agrees-clause-content : goal.returns-in_ok-put_log-in-Agrees-clause-content
returns-in_ok-put_log-in-Agrees-clause-content g c = c.in_ok-put_log-in-Agrees.ensures.content ∙ (kept_in c.args.self.now.wanted c.args.self.now.engine c.args.packet.now c.args.s.now c.requires.decoded c.args.session.now.database c.args.session.now.content c.requires.database (search rules)).1
