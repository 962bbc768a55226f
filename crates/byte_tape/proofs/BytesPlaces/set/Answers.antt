use Rattle.std.proofs.Common.{◌≡◌, ◌+◌, ◌-◌, ◌*◌, ◌/◌, ◌≤◌, length, ap, ◌∙◌, arith}
use Rattle.byte_tape.proofs.BytesPlaces.set.Goals as goal
use Rattle.byte_tape.proofs.Places.{long_written, here_written, others_written}
use Rattle.byte_tape.specs.Bytes.{record_bytes, decoded}

pub returns-then-place-size : goal.returns-then-place-size
returns-then-place-size c =
    let bytes = c.args.self.now.0.now in
    let part = c.copy_from_slice.new.self in
    let k = c.args.place in
    let n = record_bytes * k + record_bytes - record_bytes * k in
    let is : part ≡ c.encode.result = c.copy_from_slice.ensures.after in
    let long : length part ≡ record_bytes = ap length is ∙ ap length c.encode.ensures.value in
    let all : n ≡ record_bytes = omega arith in
    let in' : record_bytes * k + record_bytes ≤ length bytes = omega arith in
    let whole : length part ≡ n = omega arith in
    let low : record_bytes * k ≤ record_bytes * k = omega arith in
    let high : record_bytes * k + n ≤ record_bytes * k + record_bytes = omega arith in
    record {
      sized = ap (λ (m : _). m / record_bytes) (long_written bytes part k (record_bytes * k) n whole low high in');
      here = λ lt. here_written bytes part k n long all in' ∙ ap decoded is ∙ c.encode.ensures.back;
      others = others_written bytes part k (record_bytes * k) n whole low high in';
      past = λ le. let z : ⊥ = omega arith in absurd z;
    }
