mod Opening
