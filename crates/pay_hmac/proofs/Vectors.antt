-- The definition computes the published tags.
use Rattle.std.proofs.Common.{◌≡◌, refl}
use Rattle.sha2.specs.Sha256.{compress, digest_bytes, first_words, hash_after, rounds, schedule, sha256}
use Rattle.pay_hmac.specs.Mac.{inner_digest, mac, padded_key, short_key}
use Rattle.pay_hmac.specs.PublishedTags.{case_2_key, case_2_tag, case_2_text, case_6_key, case_6_tag, case_6_text}

pub mac_of_case_2 : mac case_2_key case_2_text ≡ case_2_tag
unfolding mac inner_digest padded_key short_key first_words schedule rounds compress hash_after digest_bytes sha256
mac_of_case_2 = refl

pub mac_of_case_6 : mac case_6_key case_6_text ≡ case_6_tag
unfolding mac inner_digest padded_key short_key first_words schedule rounds compress hash_after digest_bytes sha256
mac_of_case_6 = refl
