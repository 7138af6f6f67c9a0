use Rattle.std.proofs.Common.{◌≡◌, ◌∙◌, ◌<◌, ap, arith, length, refl, subst, sym}
use Rattle.fw_package.specs.Asked.{asked_package_of}
use Rattle.fw_package.specs.Crc.{crc_of}
use Rattle.fw_package.specs.Writing.{IsHeaderOf, body_bytes, header_bytes}
use Rattle.fw_package.proofs.Written.{body_long, fits_of, written_package}
use Rattle.fw_package.proofs.asked.AskedPackage.write_header.Goals as goal

pub put_body-requires-clause-fit : goal.put_body-requires-clause-fit
put_body-requires-clause-fit c = fits_of (asked_package_of c.args.self.now) (sym c.refusal.ensures ∙ c.in_default.is)

pub put_u32-requires : goal.put_u32-requires
put_u32-requires c =
    let long = body_long (asked_package_of c.args.self.now) c.put_body.ensures.widths.release in
    let fits = (fits_of (asked_package_of c.args.self.now) (sym c.refusal.ensures ∙ c.in_default.is)).header in
    let put = ap length c.put_body.ensures.bytes in
    omega (arith, long, fits, put)

pub returns-clause-package : goal.returns-clause-package
returns-clause-package c =
    let sum : c.crc32-checksum.result ≡ crc_of (body_bytes (asked_package_of c.args.self.now)) = c.crc32-checksum.ensures ∙ ap crc_of (c.as_slice.ensures.value ∙ c.put_body.ensures.bytes) in
    let whole : c.put_u32.new.header.items ≡ header_bytes (asked_package_of c.args.self.now) = rw (c.put_u32.ensures.bytes, c.put_body.ensures.bytes, sum) refl in
    let small : crc_of (body_bytes (asked_package_of c.args.self.now)) < 4294967296 = subst (λ n. n < 4294967296) sum c.crc32-checksum.type_inv in
    subst (IsHeaderOf (asked_package_of c.args.self.now)) (sym whole)
    (written_package (asked_package_of c.args.self.now) (fits_of (asked_package_of c.args.self.now) (sym c.refusal.ensures ∙ c.in_default.is)) c.put_body.ensures.widths small)
