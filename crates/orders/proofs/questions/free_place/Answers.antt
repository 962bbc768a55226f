use Rattle.std.proofs.Common.{◌≡◌, ℕ, ◌<◌, true, false, List, length, get_or, Some, None, All, Option, refl, sym, ap, subst, ◌∙◌, arith, rules, tests}
use Rattle.std.proofs.lemmas.Iterator.{IsFirst-from_position, YieldsList-from_slice}
use Rattle.std.proofs.lemmas.List.Elements.{All-from_all_within}
use Rattle.std.specs.List.{AllWithin, HoldsAt}
use Rattle.std.specs.Option.{MatchOption, ok_or}
use Rattle.orders.specs.Queue.{counted}
use Rattle.orders.specs.Questions.{FreePlace, stands}
use Rattle.orders.specs.Rows.{free}
use Rattle.orders.specs.declared.full.TableFull.{TableFull}
use Rattle.orders.specs.declared.row.OrderRow.{OrderRow}
use Rattle.orders.proofs.Heads.{length_counted, get_or_counted}
use Rattle.orders.proofs.questions.free_place.Goals as goal

-- the first place that is free; or none is
free_or_full : (products : ℕ) (table rows : List OrderRow) (full : TableFull) → rows ≡ counted table → full.places ≡ length rows → (found : Option ℕ) → MatchOption found (AllWithin (λ r. stands products r ≡ true) rows 0 (length rows)) (λ i. (i < length rows) × HoldsAt (λ r. stands products r ≡ false) rows i × AllWithin (λ r. stands products r ≡ true) rows 0 i) → FreePlace products table (ok_or found full)
free_or_full products table rows full e n None all =
    (n ∙ ap length e, subst (λ rs. All (λ r. stands products r ≡ true) rs) e (All-from_all_within (λ r. stands products r ≡ true) rows all))
free_or_full products table rows full e n (Some i) first =
    let in' : i < length (counted table) = omega (arith, first.0, ap length e) in
    (in', ap (stands products) (sym (get_or_counted table i free (omega (arith, in', length_counted table))) ∙ ap (λ rs. get_or rs i free) (sym e)) ∙ first.1 free)

pub returns : goal.returns
returns c =
    let rows = c.counted-places.result.now in
    let first = IsFirst-from_position _ _ c.position.result (λ r. stands c.args.products r ≡ false) (λ r. stands c.args.products r ≡ true) c.position.ensures.ran (YieldsList-from_slice rows cc) (λ x q k. search (rules, tests)) (λ x q k. search (rules, tests)) in
    rw c.ok_or.ensures.value (free_or_full c.args.products c.args.table.now rows _ c.counted-places.ensures.rows refl c.position.result first)
