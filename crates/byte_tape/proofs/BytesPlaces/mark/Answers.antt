use Rattle.std.proofs.Common.{◌≡◌, ℕ, ◌+◌, ◌-◌, ◌*◌, ◌/◌, ◌≤◌, List, length, ap, ◌∙◌, arith}
use Rattle.byte_tape.proofs.BytesPlaces.mark.Goals as goal
use Rattle.byte_tape.proofs.Fours.{mark_back}
use Rattle.byte_tape.proofs.Places.{long_written, others_written, marked_here}
use Rattle.byte_tape.specs.Bytes.{record_bytes, four, number_at, record_in}
use Rattle.tape.specs.Tapes.{with_mark}
use Rattle.terms.specs.Numbers.{mark_number}

pub returns-then-place-size : goal.returns-then-place-size
returns-then-place-size c =
    let bytes = c.args.self.now.0.now in
    let part = c.copy_from_slice.new.self in
    let k = c.args.place in
    let a = record_bytes * k + 40 in
    let n = a + 4 - a in
    let is : part ≡ four (mark_number c.args.mark) = c.copy_from_slice.ensures.after ∙ c.to_be_bytes.ensures ∙ ap four c.from.ensures.0 in
    let long : length part ≡ 4 = ap length is in
    let all : n ≡ 4 = omega arith in
    let in' : record_bytes * k + record_bytes ≤ length bytes = omega arith in
    let whole : length part ≡ n = omega arith in
    let low : record_bytes * k ≤ a = omega arith in
    let high : a + n ≤ record_bytes * k + record_bytes = omega arith in
    record {
      sized = ap (λ (m : ℕ). m / record_bytes) (long_written bytes part k a n whole low high in');
      here = λ lt.
          marked_here bytes part (record_bytes * k) n long all in'
          ∙ ap (λ (ys : List ℕ). with_mark (number_at ys 0) (record_in bytes k)) is
          ∙ ap (λ (m : ℕ). with_mark m (record_in bytes k)) (mark_back c.args.mark);
      others = others_written bytes part k a n whole low high in';
      past = λ le. let z : ⊥ = omega arith in absurd z;
    }
