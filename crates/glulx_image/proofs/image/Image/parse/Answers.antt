use Rattle.std.proofs.Common.{◌≡◌, true, false, subst, ◌≤◌, ℕ, length}
use Rattle.glulx_image.specs.Header.{extstart, has_pages, has_order, is_too_large}
use Rattle.glulx_image.proofs.LaidOut.{laid_out}
use Rattle.glulx_image.proofs.image.Image.parse.Goals as goal

pub invariant_of-result : goal.invariant_of-result
invariant_of-result c =
    let file = c.args.bytes.now in
    let pages : has_pages file ≡ true = cc in
    let order : has_order file ≡ true = cc in
    let small : is_too_large file ≡ false = cc in
    let inside : extstart file ≤ length file =
    subst (λ (n : ℕ). n ≤ length file) c.word-2.ensures c.if-bytes-word.false in
    laid_out file c.if-bytes-lt-HEADER_SIZE.false pages order small inside
