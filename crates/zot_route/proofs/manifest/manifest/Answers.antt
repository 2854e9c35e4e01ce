use Rattle.std.proofs.Common.{rules}
use Rattle.zot_model.specs.declared.call.Call.TheVariants.{DeleteManifest, GetManifest, HeadManifest}
use Rattle.zot_route.proofs.ManifestLemmas.{call_err, call_ok, put_err, put_ok}
use Rattle.zot_route.proofs.manifest.manifest.Goals as goal

pub returns-in_err-known-in-Get : goal.returns-in_err-known-in-Get
returns-in_err-known-in-Get c =
    call_err c.args.method c.args.text.now c.args.fields.now c.args.body _ _ GetManifest c.in_err-known-in-Get.field-0.0 c.from_residual.result c.in-Get.is (λ a h. h) c.in_err-known-in-Get.ensures (search rules)

pub returns-in_err-known-in-Head : goal.returns-in_err-known-in-Head
returns-in_err-known-in-Head c =
    call_err c.args.method c.args.text.now c.args.fields.now c.args.body _ _ HeadManifest c.in_err-known-in-Head.field-0.0 c.from_residual-in_err-known-in-Head.result c.in-Head.is (λ a h. h) c.in_err-known-in-Head.ensures (search rules)

pub returns-in_err-known-in-Delete : goal.returns-in_err-known-in-Delete
returns-in_err-known-in-Delete c =
    call_err c.args.method c.args.text.now c.args.fields.now c.args.body _ _ DeleteManifest c.in_err-known-in-Delete.field-0.0 c.from_residual-in_err-known-in-Delete.result c.in-Delete.is (λ a h. h) c.in_err-known-in-Delete.ensures (search rules)

pub returns-in_err-reference-in-Put : goal.returns-in_err-reference-in-Put
returns-in_err-reference-in-Put c =
    put_err c.args.method c.args.text.now c.args.fields.now c.args.body _ _ c.in_err-reference-in-Put.field-0.0 c.from_residual-in_err-reference-in-Put.result c.in-Put.is (λ a h. h) c.in_err-reference-in-Put.ensures (search rules)

pub returns-in_ok-known-in-Get : goal.returns-in_ok-known-in-Get
returns-in_ok-known-in-Get c = call_ok c.args.method c.args.text.now c.args.fields.now c.args.body _ _ GetManifest c.in_ok-known-in-Get.field-0 c.in-Get.is (λ a h. h) c.in_ok-known-in-Get.ensures

pub returns-in_ok-known-in-Head : goal.returns-in_ok-known-in-Head
returns-in_ok-known-in-Head c = call_ok c.args.method c.args.text.now c.args.fields.now c.args.body _ _ HeadManifest c.in_ok-known-in-Head.field-0 c.in-Head.is (λ a h. h) c.in_ok-known-in-Head.ensures

pub returns-in_ok-known-in-Delete : goal.returns-in_ok-known-in-Delete
returns-in_ok-known-in-Delete c = call_ok c.args.method c.args.text.now c.args.fields.now c.args.body _ _ DeleteManifest c.in_ok-known-in-Delete.field-0 c.in-Delete.is (λ a h. h) c.in_ok-known-in-Delete.ensures

pub returns-in_ok-reference-in-Put : goal.returns-in_ok-reference-in-Put
returns-in_ok-reference-in-Put c = put_ok c.args.method c.args.text.now c.args.fields.now c.args.body _ _ c.in_ok-reference-in-Put.reference c.put.result c.in-Put.is (λ a h. h) c.in_ok-reference-in-Put.ensures c.put.ensures
