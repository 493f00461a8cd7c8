-- The claims of specs/Claims.antt, proved.
-- Assumes nothing.
use lib.ListN.{drop}
use Rattle.text.proofs.Runs.{run-all}
use Rattle.b64.specs.B64.{in_alphabet}
use Rattle.b64.specs.Claims.{B64Claims, TableClaims, RunClaims}
use Rattle.b64.proofs.B64Laws.{letter_sextet, sextet_letter, encode_decode, bytes_decode, decode_encode, canonical_encode, length_decode, length_encode}
use Rattle.b64.proofs.TableRules.{sextets_rule}
use Rattle.b64.proofs.RunLaws.{decoded_whole, decoded_groups, decoded-most, decoded_begins, decoded-fits, decoding_complete}

pub b64_claims : B64Claims
b64_claims =
    record {
      letter_sextet = letter_sextet;
      sextet_letter = sextet_letter;
      encode_decode = encode_decode;
      bytes_decode = bytes_decode;
      decode_encode = decode_encode;
      canonical_encode = canonical_encode;
      length_decode = length_decode;
      length_encode = length_encode;
    }

pub table_claims : TableClaims
table_claims = record { sextets_rule = sextets_rule }

pub run_claims : RunClaims
run_claims =
    record {
      run_alphabet = λ s at. run-all in_alphabet (drop at s);
      all_of_complete = decoded_whole;
      groups_of_other = decoded_groups;
      most_of_other = decoded-most;
      begins_decoded = decoded_begins;
      fits_decoded = decoded-fits;
      decoding_complete = decoding_complete;
    }
