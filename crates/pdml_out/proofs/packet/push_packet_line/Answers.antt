use Rattle.std.proofs.Common.{◌≡◌, List, ℕ, length, ◌++◌, OnOk, codes, decimal, sym, ap, subst, ◌∙◌}
use Rattle.db_model.specs.declared.packet.Packet.{Packet}
use Rattle.show.specs.Stamps.{timestamp}
use Rattle.pdml_out.specs.Pdml.{packet_line}
use Rattle.pdml_out.proofs.Chains.{onto}
use Rattle.pdml_out.proofs.packet.push_packet_line.Goals as goal

-- nine texts, one behind another
nine : (t0 t1 t2 t3 t4 t5 t6 t7 t8 a b c d e f g h k : List ℕ) → t1 ≡ t0 ++ a → t2 ≡ t1 ++ b → t3 ≡ t2 ++ c → t4 ≡ t3 ++ d → t5 ≡ t4 ++ e → t6 ≡ t5 ++ f → t7 ≡ t6 ++ g → t8 ≡ t7 ++ h → t8 ++ k ≡ t0 ++ (a ++ (b ++ (c ++ (d ++ (e ++ (f ++ (g ++ (h ++ k))))))))
nine t0 t1 t2 t3 t4 t5 t6 t7 t8 a b c d e f g h k e1 e2 e3 e4 e5 e6 e7 e8 =
    onto t7 h t8 k e8 ∙ onto t6 g t7 (h ++ k) e7 ∙ onto t5 f t6 (g ++ (h ++ k)) e6 ∙ onto t4 e t5 (f ++ (g ++ (h ++ k))) e5
    ∙ onto t3 d t4 (e ++ (f ++ (g ++ (h ++ k)))) e4 ∙ onto t2 c t3 (d ++ (e ++ (f ++ (g ++ (h ++ k))))) e3
    ∙ onto t1 b t2 (c ++ (d ++ (e ++ (f ++ (g ++ (h ++ k)))))) e2 ∙ onto t0 a t1 (b ++ (c ++ (d ++ (e ++ (f ++ (g ++ (h ++ k))))))) e1

pub returns : goal.returns
unfolding packet_line
returns c =
    let p = c.args.packet.now in
    let captured : decimal (length c.as_slice.result.now) ≡ decimal (length p.bytes) = ap (λ (l : List ℕ). decimal (length l)) c.as_slice.ensures.bytes in
    let whole : decimal c.from.result ≡ decimal p.length = ap decimal c.from.ensures in
    let e = nine c.args.text.now.items c.push.new.text.items c.push_number.new.text.items c.push-2.new.text.items c.push_number-2.new.text.items c.push-3.new.text.items c.push_number-3.new.text.items c.push-4.new.text.items c.push_timestamp.new.text.items
    (codes "<packet number=\"") (decimal p.number) (codes "\" caplen=\"") (decimal (length p.bytes)) (codes "\" length=\"") (decimal p.length) (codes "\" timestamp=\"") (timestamp p.stamp) (codes "\">\n")
    c.in_ok-push.ensures c.in_ok-push_number.ensures c.in_ok-push-2.ensures (c.in_ok-push_number-2.ensures ∙ ap (λ (l : List ℕ). c.push-2.new.text.items ++ l) captured) c.in_ok-push-3.ensures (c.in_ok-push_number-3.ensures ∙ ap (λ (l : List ℕ). c.push-3.new.text.items ++ l) whole) c.in_ok-push-4.ensures c.in_ok-push_timestamp.ensures in
    subst (λ (l : List ℕ). OnOk c.push-5.result (c.push-5.new.text.items ≡ l)) e c.push-5.ensures
