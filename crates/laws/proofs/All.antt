-- All laws of every history. Assumes nothing.
use Rattle.laws.specs.Histories.{History, Reached}
use Rattle.laws.specs.Laws.{Laws}
use Rattle.rules.specs.Worlds.{World}
use Rattle.laws.proofs.Conserve.{conserved}
use Rattle.laws.proofs.Halting.{halted_rightly}
use Rattle.laws.proofs.Keeping.{placed, kept_rows}
use Rattle.laws.proofs.Made.{well_made}
use Rattle.laws.proofs.Marks.{cancelled_rightly}
use Rattle.laws.proofs.Numbers.{numbered, tidy, two_orders}
use Rattle.laws.proofs.Puts.{put_once}
use Rattle.laws.proofs.Telling.{told_counts, rising_numbers}
use Rattle.laws.proofs.Times.{judged, timely}
use Rattle.laws.proofs.Uncross.{uncrossed}

pub all_laws : {h : History} {w : World} → Reached h w → Laws h w
all_laws r =
    record {
      traded_well = record { put_once = put_once r; well_made = well_made r; uncrossed = uncrossed r };
      conserved = conserved r;
      two_orders = two_orders r;
      cancelled_rightly = cancelled_rightly r (well_made r);
      tidy = tidy r;
      numbered = numbered r;
      placed = placed r;
      kept_rows = kept_rows r;
      rising_numbers = rising_numbers r;
      halted_rightly = halted_rightly r;
      judged = judged r;
      timely = timely r;
      told_counts = told_counts r;
    }
