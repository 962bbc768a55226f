-- What a trade reads once its case is determined. Assumes nothing.
use Rattle.terms.specs.declared.determination.Determination.{Determination}
use Rattle.terms.specs.declared.determination.Determination.TheVariants.{Upheld as upheld, Cancelled as cancelled}
use Rattle.terms.specs.declared.mark.Mark.{Mark}
use Rattle.terms.specs.declared.mark.Mark.TheVariants.{Upheld, Cancelled}

abbrev pub mark_by : Determination → Mark
mark_by upheld = Upheld
mark_by cancelled = Cancelled
