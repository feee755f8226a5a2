use Rattle.std.proofs.Common.{sym, ap, arith}
use Rattle.sv_core.proofs.PublicationLaws.{IsListOf, list_of}
use Rattle.sv_core.proofs.publications.Publications.count_of.Goals as goal

pub returns : goal.returns
returns c =
    let k = c.self.inside in
    let l : IsListOf c.args.self.now k.blues.values k.lists.items c.args.site c.index.result.now =
    list_of c.args.self.now k.blues.values k.lists.items c.args.site c.number.result c.index.result.now (ap (λ v. v.blues) (sym c.self.view_is))
    c.number.ensures.value
    c.number.ensures.from c.number.ensures.to c.self.invariant.eight c.index.ensures in
    omega (arith, c.len.ensures, c.index.result.now.ok.0, l.long (c.self.invariant.given _ _ l.at))
