use Rattle.std.proofs.Common.{◌≡◌, ◌≤◌, length, take, drop, rules}
use Rattle.mt_base.proofs.Fronts.{copied-rest}
use Rattle.mt_base.proofs.mem_source.MemSourceSource.take.Goals as goal

pub returns-clause-next : goal.returns-clause-next
returns-clause-next c =
    let left : c.args.self.now.left ≡ drop c.self.inside.start c.self.inside.bytes.items = search rules in
    let copy : c.copy_from_slice.new.self ≡ take c.min-count.result c.args.self.now.left = search rules in
    let fits : c.min-count.result ≤ length c.args.self.now.left = search rules in
    copied-rest _ _ _ _ _ _ left copy fits
