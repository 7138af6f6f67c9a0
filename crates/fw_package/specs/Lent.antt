-- The values of a borrowed record, a borrowed component and a header's contents.
use Rattle.fw_package.specs.Components.{PlaceOf}
use Rattle.fw_package.specs.Outlines.{ContentsOf}
use Rattle.fw_package.specs.Package.{ComponentOf, RecordOf, text_of}
use Rattle.fw_package.specs.declared.components.Component.{Component}
use Rattle.fw_package.specs.declared.contents.Contents.{Contents}
use Rattle.fw_package.specs.declared.places.Place.{Place}
use Rattle.fw_package.specs.declared.records.Record.{Record}

abbrev pub record_seen : Record → RecordOf
record_seen r = record { flags = r.flags; set_text = text_of r.set_text; descriptors = r.descriptors; uses = r.uses }

abbrev pub component_seen : Component → ComponentOf
component_seen c =
    record {
      classification = c.classification;
      identifier = c.identifier;
      stamp = c.stamp;
      options = c.options;
      method = c.method;
      offset = c.offset;
      text = text_of c.text;
      image = c.image.now;
    }

abbrev pub place_seen : Place → PlaceOf
place_seen p =
    record {
      classification = p.classification;
      identifier = p.identifier;
      stamp = p.stamp;
      options = p.options;
      method = p.method;
      offset = p.offset;
      size = p.size;
      text = text_of p.text;
    }

abbrev pub contents_seen : Contents → ContentsOf
contents_seen c =
    record {
      header_size = c.header_size;
      release = c.release.now;
      version = text_of c.version;
      records = c.records;
      component_count = c.component_count;
      components = c.components.now;
    }
