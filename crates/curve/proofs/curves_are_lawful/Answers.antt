use Rattle.curve.proofs.Least.{curve_laws}
use Rattle.curve.proofs.curves_are_lawful.Goals as goal

pub returns : goal.returns
returns c = curve_laws
