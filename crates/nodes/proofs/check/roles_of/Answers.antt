-- `check::roles_of` meets its contract: each range of kinds has its roles, by the law `arm`.
-- Assumes nothing.
use Rattle.std.proofs.Common.{arith, ◌∙◌, refl, inr, []}
use Rattle.laws.specs.Table.{arm}
use Rattle.nodes.specs.Nodes.{roles_of}
use Rattle.nodes.proofs.Checks.{no_kind}
use Rattle.nodes.proofs.check.roles_of.Goals as goal

pub returns-in-1-to-2 : goal.returns-in-1-to-2
unfolding roles_of
returns-in-1-to-2 c = c.of-in-1-to-2.ensures ∙ arm [] roles_of _ 1 2 (inr refl, (inr refl, tt)) c.args.kind refl (omega arith) (omega arith)

pub returns-in-3-to-6 : goal.returns-in-3-to-6
unfolding roles_of
returns-in-3-to-6 c = c.of-in-3-to-6.ensures ∙ arm [] roles_of _ 3 4 (inr refl, (inr refl, (inr refl, (inr refl, tt)))) c.args.kind refl (omega arith) (omega arith)

pub returns-in-7-to-9 : goal.returns-in-7-to-9
unfolding roles_of
returns-in-7-to-9 c = c.of-in-7-to-9.ensures ∙ arm [] roles_of _ 7 3 (inr refl, (inr refl, (inr refl, tt))) c.args.kind refl (omega arith) (omega arith)

pub returns-in_default : goal.returns-in_default
returns-in_default c = c.of-in_default.ensures ∙ no_kind c.args.kind (λ h. grind arith)
