use Rattle.std.proofs.Common.{◌≡◌, ℕ, ◌<◌, List, [], ap, sym, ◌∙◌, slice_index, subst}
use Rattle.std.proofs.lemmas.List.{append-nil}
use Rattle.byteorder.specs.Endian.{big_bytes, big_from, big_number}
use Rattle.byteorder.specs.Numbers.{big_number-reads_back}
use Rattle.index_keys.proofs.KeyNumbers.{are_bytes}
use Rattle.tune_format.specs.Written.{number_key}
use Rattle.tune_format.proofs.Bytes.{key_number}
use Rattle.tune_format.proofs.rows.number_of_key.Goals as goal

pub returns-else-is_same-clause-none : goal.returns-else-is_same-clause-none
returns-else-is_same-clause-none c = λ number small same.
    let key = c.args.key.now in
    let xs = c.bytes.result.now in
    let whole : big_from 0 32 xs ≡ key = ap (λ (l : List ℕ). big_number 32 l) (c.bytes.ensures.bytes ∙ sym (append-nil (big_bytes 32 key)))
    ∙ big_number-reads_back 32 key [] c.bytes.ensures.bound in
    let small_byte : (k : ℕ) → slice_index xs k < 256 =
    λ k. subst (λ (l : List ℕ). slice_index l k < 256) (sym c.bytes.ensures.bytes) ((are_bytes 32 key).small k) in
    let read : c.read_u32-number.result ≡ number = c.read_u32-number.ensures ∙ key_number number key xs small_byte whole same in
    let made : c.key_of_number.result ≡ key = c.key_of_number.ensures ∙ ap number_key read ∙ same in
    let yes = c.is_same.ensures.1 made in
    let no = c.if-is_same.false in cc
