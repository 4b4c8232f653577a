-- `main`: what LOWER stored fits its table.
use Rattle.std.proofs.Common.{sym, rules}
use Rattle.compile.proofs.Fits.{lower_fits}
use Rattle.lowerbook.proofs.main.Goals as goal

pub print_nodes-requires : goal.print_nodes-requires
print_nodes-requires c = let fits = lower_fits _ _ _ _ (sym c.in-Ok.ensures.0) in search rules
